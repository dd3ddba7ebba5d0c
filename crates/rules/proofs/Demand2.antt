-- Each clause of demand 2 by its theorem. Assumes nothing.
use Rattle.rules.specs.Demand2.{Demand2}
use Rattle.rules.proofs.Beyond as Beyond
use Rattle.rules.proofs.Complete as Complete
use Rattle.rules.proofs.ReadWrite as ReadWrite
use Rattle.rules.proofs.WriteRead as WriteRead

pub demand_2 : Demand2
demand_2 =
    record {
      exact = Complete.exact;
      read_then_write = ReadWrite.read_then_write;
      write_then_read = WriteRead.write_then_read;
      nothing_beyond = Beyond.nothing_beyond;
      cut_is_refused = Beyond.cut_is_refused;
      answer_stays = Beyond.answer_stays;
      well_formed_is_written = ReadWrite.well_formed_is_written;
      refused_write_touches_nothing = WriteRead.refused_write_touches_nothing;
    }

-- Each clause of demand 2 for a host by its theorem. What is read fills the slots by their definition, and a typed frame stands for
-- its fields, so both are one frame's slots. Assumes nothing.
use mathlib.Core.Path.{ap}
use Rattle.rules.proofs.Demand2.{demand_2 as over_fields}
use Rattle.rules.specs.Reading.{Reading}
use Rattle.slots.specs.Demand2.{ReadsTheTypedFrame, Demand2}
use Rattle.slots.specs.Flat.{slots_after}
use Rattle.slots.proofs.RoundTrips as RoundTrips
use Rattle.slots.proofs.Zeros.{others_are_zero}

reads_the_typed_frame : ReadsTheTypedFrame
reads_the_typed_frame s old limit f e = ap (λ (r : Reading). slots_after old r) e

pub demand_2 : Demand2
demand_2 =
    record {
      fields = over_fields;
      read_then_write = RoundTrips.read_then_write;
      write_then_read = RoundTrips.write_then_read;
      reads_the_typed_frame = reads_the_typed_frame;
      others_are_zero = others_are_zero;
    }

-- What an entry is makes no difference to where entries end.
use Rattle.std.proofs.Common.{◌∙◌, ap}
use Rattle.rules.specs.Reading.{read_entry}
use Rattle.byte_strings.specs.Stops.{stop}
use Rattle.byte_strings.proofs.Stops.{repeated_ends}
use Rattle.chunks.proofs.entry.entries_end.Goals as goal

pub returns : goal.returns
returns c = c.items_end.ensures ∙ ap stop (repeated_ends read_entry c.args.count c.args.s.now c.args.start)

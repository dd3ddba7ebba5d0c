-- The marked cases A to N (01 "Frames and calls on either side"), under frame limit 0.
use Rattle.std.specs.Prelude.{◌≡◌, List, [], ◌∷◌, map, reverse, replicate}
use Rattle.protocol.specs.Fields.{no_header, place}
use Rattle.protocol.specs.Frames.{fields_of}
use Rattle.protocol.specs.declared.frame.Frame.TheVariants.{Deliver}
use Rattle.rules.specs.Cases as rules
use Rattle.ledger.specs.Calls.{accepted, refused}
use Rattle.ledger.specs.Rules.{empty}
use Rattle.ledger.specs.Demand3.{make}
use Rattle.credit_ledger.specs.Calls.{Call, opening, grant, received, nothing, frame, number, Reply}
use Rattle.credit_ledger.specs.Step.{credit}

-- The answers to calls made one after another from an empty ledger.
abbrev answers : List Call → List Reply
answers calls = reverse (map (λ e. e.1) (make credit calls [] empty).0)

-- A Deliver for id 5 of Size 53: version 1, a chunk without entries.
abbrev pub delivery : Call
delivery = received (0x00 ∷ 0x00 ∷ 0x00 ∷ 0x35 ∷ 0x00 ∷ 0x08 ∷ 0x00 ∷ 0x01 ∷ 0x05 ∷ replicate 48 0x00) 0

-- Accepted, with that frame handed back.
abbrev pub yes : Reply
yes = accepted (frame (fields_of (Deliver 5 (record { header = no_header; «data» = place 57 0 }))))

pub record MarkedCases : Type 0 where
  pub A_L : rules.Cases
  pub M : answers (opening 5 2 ∷ delivery ∷ delivery ∷ delivery ∷ grant 5 1 ∷ delivery ∷ [])
      ≡ accepted nothing ∷ yes ∷ yes ∷ refused (number 15) ∷ accepted nothing ∷ yes ∷ []
  pub N : answers (grant 6 1 ∷ []) ≡ refused (number 13) ∷ []

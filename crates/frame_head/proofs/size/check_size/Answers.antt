-- Each return is one check of the definition.
use borrow.Author.Tests.{lt-ltb, le-ltb}
use Rattle.std.proofs.Common.{◌≡◌, true, false, sym, ◌∙◌}
use Rattle.rules.specs.Reading.{over_limit}
use Rattle.frame_head.specs.Size.{size_refusal}
use Rattle.frame_head.proofs.size.check_size.Goals as goal
use Rattle.frame_head.proofs.size.check_size.Goals.{then-size-gt4294967295-via-then-size-gt4294967295, then-size-gt4294967295-via-else-size-gt4294967295+then-over_limit}

pub returns-then-size-gt4294967295 : goal.returns-then-size-gt4294967295
unfolding size_refusal
returns-then-size-gt4294967295 c =
    elim c.then-size-gt4294967295.branch [
      | then-size-gt4294967295-via-then-size-gt4294967295 w ↦ rw (lt-ltb _ _ w.if-size-gt4294967295.true)
      | then-size-gt4294967295-via-else-size-gt4294967295+then-over_limit w ↦
          let l : over_limit c.args.limit c.args.size ≡ true = sym w.over_limit.ensures ∙ w.if-over_limit.true in
          rw (le-ltb _ _ w.if-size-gt4294967295.false, l)
    ]

pub returns-then-room-size : goal.returns-then-room-size
unfolding size_refusal
returns-then-room-size c =
    let l : over_limit c.args.limit c.args.size ≡ false = sym c.over_limit.ensures ∙ c.if-over_limit.false in
    rw (le-ltb _ _ c.if-size-gt4294967295.false, l, lt-ltb _ _ c.if-room-size.true)

pub returns : goal.returns
unfolding size_refusal
returns c =
    let l : over_limit c.args.limit c.args.size ≡ false = sym c.over_limit.ensures ∙ c.if-over_limit.false in
    rw (le-ltb _ _ c.if-size-gt4294967295.false, l, le-ltb _ _ c.if-room-size.false)

-- The bytes that were put are the frame.
use Rattle.std.proofs.Common.{ℕ, List, ap, ◌∙◌}
use Rattle.credit_ledger.specs.Calls.{received}
use Rattle.credit_ledger.specs.Step.{after}
use Rattle.test_ledgers.proofs.Lines.{frame_bytes}
use Rattle.test_ledgers.proofs.calls.receive.Goals as goal

pub returns : goal.returns
returns c =
    c.receive.ensures.credits_after
    ∙ ap (λ (b : List ℕ). after c.args.credits.now (received b c.args.limit)) (frame_bytes _ _ _ _ 4096 c.buffer-buffer.ensures c.unhex-n.ensures.value c.unhex-n.ensures.out_after)

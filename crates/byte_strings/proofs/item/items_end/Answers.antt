-- By whether one is read.
use Rattle.std.proofs.Common.{◌≡◌, ◌∙◌, ap, ◌+◌, ◌-◌, arith}
use Rattle.byte_strings.specs.Stops.{stop}
use Rattle.byte_strings.proofs.Stops.{after_end, none_left, stops_all}
use Rattle.byte_strings.proofs.item.items_end.Goals as goal

pub returns-in-None : goal.returns-in-None
returns-in-None g c =
    let all = stops_all (g.T.Item.read c.args.item.now) c.args.s.now (c.args.count - c.loop.counter) c.loop.at (λ e. omega (arith, e)) c.in-None.ensures in
    rw (← c.loop.invariant) (c.end.ensures ∙ all)

pub loop-preserved : goal.loop-preserved
loop-preserved g c =
    let one_less : c.args.count - (c.loop.counter + 1) ≡ c.args.count - c.loop.counter - 1 = omega arith in
    rw one_less (after_end (g.T.Item.read c.args.item.now) c.args.s.now (c.args.count - c.loop.counter) c.loop.at (λ e. omega (arith, e)) _ c.in-Some.ensures ∙ c.loop.invariant)

pub returns : goal.returns
returns g c =
    none_left (g.T.Item.read c.args.item.now) c.args.s.now (c.args.count - c.loop.counter) c.loop.at (omega arith) ∙ ap stop c.loop.invariant

-- Each turn is a step that goes on behind the last.
use Rattle.std.proofs.Common.{refl, arith}
use Rattle.listing_text.specs.Steps.{begun, Lists}
use Rattle.listing_text.proofs.Listings.{step_lists, went_on, stops, lists_start, lists_more}
use Rattle.listing_text.proofs.listing.list.Goals.{After-step-p}
use Rattle.listing_text.proofs.listing.list.Goals as goal

-- The step, and all steps so far.
stepped : (c : After-step-p) → Lists c.args.window.now c.args.ended c.loop-p.p c.loop-p.out c.step-p.new.out c.step-p.result
stepped c = step_lists _ _ _ c.loop-p.invariant.lists.within _ _ _ _ refl c.step-p.ensures c.loop-p-test.true

listed : (c : After-step-p) → Lists c.args.window.now c.args.ended (begun c.args.offset c.args.frames) c.args.out.now c.step-p.new.out c.step-p.result
listed c = lists_more _ _ _ _ _ _ _ _ c.loop-p.invariant.lists c.loop-p.invariant.going (stepped c)

pub loop-p-init : goal.loop-p-init
loop-p-init c = record { lists = (lists_start _ _ _ _ _).0; going = refl }

pub loop-p-smaller : goal.loop-p-smaller
loop-p-smaller c =
    let at = (goal.at.loop-p-smaller c).After-step-p in
    let on = went_on _ _ _ c.loop-p.invariant.lists.within _ _ _ _ refl c.step-p.ensures c.in-Going.is in
    let within = (stepped at).within in
    omega (arith, on, within)

pub loop-p-preserved : goal.loop-p-preserved
loop-p-preserved c = record { lists = listed (goal.at.loop-p-preserved c).After-step-p; going = c.in-Going.is }

pub returns-in_default : goal.returns-in_default
returns-in_default c =
    record { lists = listed (goal.at.returns-in_default c).After-step-p; stops = stops _ _ _ c.loop-p.invariant.lists.within _ _ _ _ refl c.step-p.ensures _ c.in_default.not-Going }

-- A turn makes a read, or none, and then a write, or none.
use Rattle.std.proofs.Common.{◌≡◌, ◌+◌, length, sym, ap, ◌∙◌, refl, arith}
use Rattle.listing_loop.specs.Standing.{Stands}
use Rattle.listing_loop.proofs.Runs.{Before, Within, reading_stage, nothing_read, read_then, read_again, write_again, write_over, turns_over}
use Rattle.listing_loop.proofs.session.turns.Given.{Over}
use Rattle.listing_loop.proofs.session.turns.Goals.{After-is_listing, then-is_reading, else-is_reading, then-not-is_listing+else-not-is_listing-2, else-not-is_listing}
use Rattle.listing_loop.proofs.session.turns.Goals as goal

-- After the window was listed.
listed : (g : Over) (c : After-is_listing g) → Stands c.loop-made.invariant.0.0 c.listed-at.result c.loop-made.window c.listed-at.new.text
listed g c = let inv = c.loop-made.invariant.0 in c.listed-at.ensures.stands inv.0 inv.2 inv.1

-- After a read, or none.
joined : (g : Over) (c : After-is_listing g) → Within c.loop-made.made c.if-is_reading.at c.if-is_reading.window c.listed-at.new.text
joined g c =
    let inv = c.loop-made.invariant.0 in
    elim c.if-is_reading.branch [
      | then-is_reading w ↦
          let room = w.make_room-at in
          let received = w.received-at in
          let reading = room.ensures.stage ∙ reading_stage _ (sym c.is_reading.ensures ∙ w.if-is_reading.true) in
          let long : length c.if-is_reading.window ≡ length room.new.window = c.if-is_reading.auto.window ∙ sym room.auto.window in
          read_then _ _ _ _ _ _ _ _ _ _ w.one_read-got.result (room.ensures.stands _ _ (listed g c)) reading inv.3 refl (ap length (sym w.window-is) ∙ long) received.ensures.stage received.ensures.stands w.at-is w.window-is
      | else-is_reading w ↦ nothing_read _ _ _ _ _ _ inv.0 (listed g c) inv.3 c.listed-at.ensures.stage (sym c.is_reading.ensures ∙ w.if-is_reading.false) w.at-is w.window-is
    ]

pub waiting-lines-requires : goal.waiting-lines-requires
waiting-lines-requires g c = (joined g (goal.at.waiting-lines-requires g c).After-is_listing).1.room

pub returns-then-not-is_listing-2 : goal.returns-then-not-is_listing-2
returns-then-not-is_listing-2 g c =
    let at = (goal.at.returns-then-not-is_listing-2 g c).After-is_listing in
    let due = sym c.is_listing.ensures ∙ c.if-not-is_listing.true in
    let over = sym c.is_listing-then-not-is_listing.ensures ∙ c.if-not-is_listing-2.true in
    write_over _ _ _ _ _ _ c.is_ok-taken.result (joined g at) due c.waiting-lines.ensures c.wrote-at.ensures.stands c.wrote-at.ensures.waiting c.wrote-at.ensures.stage over

pub returns : goal.returns
returns g c = turns_over _ _ _ _ c.loop-made.invariant.0 c.loop-made-test.false

pub loop-made-preserved : goal.loop-made-preserved
loop-made-preserved g c =
    let at = (goal.at.loop-made-preserved g c).After-is_listing in
    let inv = c.loop-made.invariant in
    let same : length c.listed-at.new.text ≡ length c.args.text.now = c.listed-at.auto.text ∙ inv.2 in
    let next : Before (c.loop-made.made + 1) c.if-not-is_listing.at c.if-is_reading.window c.listed-at.new.text =
    elim c.if-not-is_listing.branch [
      | then-not-is_listing+else-not-is_listing-2 w ↦
          let due = sym c.is_listing.ensures ∙ w.if-not-is_listing.true in
          let on = sym w.is_listing-then-not-is_listing.ensures ∙ w.if-not-is_listing-2.false in
          let roomy = c.requires.text_size in
          write_again _ _ _ _ _ _ w.is_ok-taken.result (joined g at) due w.waiting-lines.ensures w.wrote-at.ensures.stands _ (omega (arith, same, roomy)) w.wrote-at.ensures.stage on w.at-is
      | else-not-is_listing w ↦ read_again _ _ _ _ _ (joined g at) (sym c.is_listing.ensures ∙ w.if-not-is_listing.false) w.at-is
    ] in
    (next, c.if-is_reading.auto.window ∙ inv.1, same, omega (arith, c.loop-made-test.true))

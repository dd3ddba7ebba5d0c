-- Each answer is what key and version pick of the key's layouts.
use Rattle.std.proofs.Common.{◌≡◌, ◌≢◌, Ok, Err, rules}
use Rattle.std.proofs.lemmas.Bool.{ne_eqb}
use Rattle.std.proofs.lemmas.Result.{err_from_is_err_and}
use Rattle.protocol.specs.declared.refusal.Refusal.TheVariants.{UnknownKey, UnknownVersion}
use Rattle.protocol.proofs.Picked.{picks}
use Rattle.protocol.proofs.layout.layout_of.Goals as goal

pub returns-in_err-layouts : goal.returns-in_err-layouts
returns-in_err-layouts c =
    let p = err_from_is_err_and c.from_residual.result c.from_residual.ensures.1 in
    let none = c.in_err-layouts.ensures.ok_part in
    let refused : c.in_err-layouts.field-0.0 ≡ UnknownKey = cc (rw none at c.in_err-layouts.ensures.value) in
    let e = picks _ c.args.version _ _ c.layouts_of.ensures (rw (p.1, p.2, none, refused)) in
    record { decision = e.0; row = e.1 }

pub returns-in-1 : goal.returns-in-1
returns-in-1 c =
    let e = picks _ c.args.version _ (Ok c.in_ok-layouts.layouts.first) c.layouts_of.ensures (rw (c.in_ok-layouts.ensures.ok_part, c.in-1.is)) in
    record { decision = e.0; row = e.1 }

pub returns-in-2 : goal.returns-in-2
returns-in-2 c =
    let e = picks _ c.args.version _ c.ok_or-in-2.result c.layouts_of.ensures (rw (c.in_ok-layouts.ensures.ok_part, c.in-2.is) c.ok_or-in-2.ensures.value) in
    record { decision = e.0; row = e.1 }

pub returns-in_default : goal.returns-in_default
returns-in_default c =
    let first : c.args.version ≢ 1 = search rules in
    let second : c.args.version ≢ 2 = search rules in
    let e = picks _ c.args.version _ (Err UnknownVersion) c.layouts_of.ensures (rw (c.in_ok-layouts.ensures.ok_part, ne_eqb c.args.version 1 first, ne_eqb c.args.version 2 second)) in
    record { decision = e.0; row = e.1 }

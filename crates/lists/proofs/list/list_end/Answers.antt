-- By the count, and then by the elements.
use Rattle.std.proofs.Common.{sym, ap, arith}
use Rattle.std.proofs.lemmas.Result.{err_from_is_err_and}
use Rattle.byte_strings.specs.Stops.{stop}
use Rattle.number_lists.proofs.Lists.{count_there, list_refused, list_stops}
use Rattle.lists.proofs.list.list_end.Goals as goal

pub returns-in_err-count : goal.returns-in_err-count
returns-in_err-count c =
    let p = err_from_is_err_and c.from_residual.result c.from_residual.ensures.1 in
    rw (p.1, p.2) (ap stop (sym (list_refused _ _ _ _ _ _ c.in_err-count.ensures)))

pub overflow_add-at : goal.overflow_add-at
overflow_add-at c = omega (arith, count_there _ _ _ _ c.in_ok-count.ensures)

pub returns : goal.returns
returns c = list_stops _ _ _ _ _ _ c.in_ok-count.ensures c.elements_end.ensures

use Rattle.std.proofs.Common.{◌+◌, ◌<◌, length, get_or, sym, subst}
use Rattle.runs.specs.Lent.{items_of}
use Rattle.runs.specs.Rows.{Longest, in_runs}
use Rattle.runs.proofs.Lawful.{longest}
use Rattle.runs.proofs.lists.RunList.runs.Goals as goal

pub returns-clause-longest : goal.returns-clause-longest
returns-clause-longest c k d h =
    let l = c.self.inside in
    let value = c.as_slice.ensures in
    rw (← c.self.view_is) (subst (λ xs. Longest (in_runs (items_of l.rows)) (get_or xs k d)) (sym value) (longest (items_of l.rows) (l.size + 1) l.ok.apart k d (subst (λ xs. k < length xs) value h)))

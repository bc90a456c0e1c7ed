use Rattle.std.proofs.Common.{ℕ, List, map, subst}
use Rattle.easybook.specs.Book.{IsBookOf}
use Rattle.easybook.proofs.live.run_live.Goals as goal

pub returns : goal.returns
returns g c =
    let book = subst (λ (log : List ℕ). IsBookOf log c.args.options.procs c.args.options.spacing (map (λ x. x.items) c.in_ok-opened.opened.comments.items) c.in_ok-opened.opened.book) c.as_slice.ensures.value c.in_ok-opened.ensures.book in
    c.talk.ensures c.args.log.items c.args.options.procs c.args.options.spacing book

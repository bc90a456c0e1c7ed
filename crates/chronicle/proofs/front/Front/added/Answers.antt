use Rattle.std.proofs.Common.{sym, ◌∙◌, ap}
use Rattle.chronicle.proofs.Adding.{adds_moves}
use Rattle.chronicle.proofs.front.Front.added.Goals as goal

pub compare_exchange-found-requires : goal.compare_exchange-found-requires
compare_exchange-found-requires g c =
    let h = c.requires.head in
    let seen = c.again-seen.ensures in
    let offer = c.plain-offer.ensures in
    let pen = c.no_pen-pen.ensures in
    let book = ap (λ s. s.book) seen ∙ (c.self.invariant.1 ∙ sym (ap (λ w. w.book) h)) in (
      ap (λ w. w.tracked) h,
      book,
      pen.0 ∙ book,
      offer.0,
      rw (ap (λ w. w.key) h, pen.1, offer.1, ap (λ s. s.log) seen) (adds_moves c.self.inside.seen.log (g.M.Plain.ask c.args.about.now) c.plain-offer.result.state c.self.inside.events (sym c.self.invariant.0)),
    )

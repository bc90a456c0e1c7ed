use Rattle.std.proofs.Common.{sym, ◌∙◌, map, refl}
use Rattle.std.proofs.lemmas.List.{length-map}
use Rattle.commands.proofs.EntryWords.{entry_is_made}
use Rattle.commands.proofs.parse.insert.Goals as goal

pub unwrap-entry-requires : goal.unwrap-entry-requires
unwrap-entry-requires g c =
    let made = entry_is_made (map (λ w. w.now) c.args.words.now) c.in-Ok.values (length-map c.args.words.now (λ w. w.now) ∙ c.if-words-ne18.false) (sym c.in-Ok.ensures) in
    rw (c.new-in-Ok.ensures, c.new.ensures.items, made) refl

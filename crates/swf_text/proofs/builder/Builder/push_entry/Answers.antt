use Rattle.std.proofs.Common.{◌∙◌, ap, ◌≡◌, arith, false, List, [], ◌∷◌, ◌++◌, length}
use Rattle.std.specs.List.{list_any}
use Rattle.swf_text.specs.Entry.{has_number, LogEntry}
use Rattle.swf_text.specs.Text.{LogText}
use Rattle.swf_text.proofs.Entries.{log_more, index_more}
use Rattle.swf_text.proofs.builder.Builder.push_entry.Goals as goal

pub invariant_of-self-2 : goal.invariant_of-self-2
invariant_of-self-2 g c =
    let done = rw c.unwrap.ensures at c.push.ensures.items in
    let seen : c.self.inside.entries.items ≡ c.args.self.now.entries = ap (λ (t : LogText). t.entries) c.self.view_is in
    let put : c.push.new.self.items ≡ c.self.inside.entries.items ++ c.args.entry ∷ [] = ◌∙◌ {A = List LogEntry} done (ap (λ (l : List LogEntry). l ++ c.args.entry ∷ []) c.in_ok-reserve.ensures.items) in
    let new : list_any (has_number c.args.number) c.self.inside.entries.items ≡ false = ap (list_any (has_number c.args.number)) seen ∙ c.requires.new in
    record {
      log = log_more c.self.inside.entries.items c.push.new.self.items c.args.entry c.args.number c.self.invariant.log c.requires.sound put c.requires.number new (omega (arith, c.requires.capacity, ap (λ (es : List LogEntry). length es) seen));
      index = record {
        rise = c.in_ok-insert.ensures.rising;
        known = λ n. index_more c.self.inside.entries.items c.push.new.self.items c.args.entry c.args.number put c.requires.number n _ _ (c.in_ok-insert.ensures.added n) (c.self.invariant.index.known n);
      };
    }

use Rattle.std.proofs.Common.{Option, Some, None, ℤ, List, ℕ, ◌≡◌, sym, ◌∙◌}
use Rattle.std.specs.Prelude.{IfSome}
use Rattle.swf_text.specs.Number.{Spells, number_of}
use Rattle.swf_text.proofs.Numbers.{Spells-number_of, number_of-Spells}
use Rattle.swf_text.proofs.value.Value.from_bytes.Goals as goal

found : (bytes : List ℕ) (r : Option ℤ) → r ≡ number_of bytes → IfSome r (λ v. Spells bytes v)
found bytes None h = tt
found bytes (Some v) h = Spells-number_of bytes v (sym h)

pub returns-clause-spells : goal.returns-clause-spells
returns-clause-spells c = found _ _ c.number.ensures

pub returns-clause-only : goal.returns-clause-only
returns-clause-only c v spells = c.number.ensures ∙ number_of-Spells _ v spells

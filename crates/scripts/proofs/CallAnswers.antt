-- Commands that are one call, and what is said of its result.
use Rattle.std.proofs.Common.{◌≡◌, ℕ, List, refl, sym, ◌∙◌}
use Rattle.std.specs.Prelude.{Result, Ok, Err}
use Rattle.book_machine.specs.declared.reply.Reply.{Reply}
use Rattle.book_machine.specs.Call.{BookCall}
use Rattle.version_book.specs.Answers.{answer_of}
use Rattle.version_book.specs.Names.{refusal_name}
use Rattle.version_book.specs.declared.refusal.Refusal.{Refusal}
use Rattle.version_book.specs.declared.refusal.Refusal.TheVariants as why
use Rattle.version_book.specs.Steps.{outcome}
use Rattle.scripts.specs.Analysts.{CallBy}
use Rattle.scripts.specs.Answers.{scenario_says, says_of}
use Rattle.scripts.specs.Lines.{refused, scenario_line}
use Rattle.version_book.specs.Rules.{Rules}
use Rattle.scripts.specs.Answered.{became_word, scenario_outcome}
use Rattle.scripts.specs.declared.answer.Became.{Became}

says-refusal : {T F : Type 0} (says : Reply → List ℕ) (replied : T → Reply) (because : F → Reply) (fault_name : F → List ℕ) → ((fault : F) → says (because fault) ≡ refused (fault_name fault)) → (refusal : Refusal F) → refused (refusal_name fault_name refusal) ≡ says_of says (answer_of replied because (Err refusal))
says-refusal says replied because fault_name named why.JournalFull = refl
says-refusal says replied because fault_name named (why.Fault fault) = sym (named fault)
says-refusal says replied because fault_name named why.Memory = refl

-- the line that names why a call was refused is the response to its command
pub call-refused : {S T F : Type 0} (rules : Rules S) (old new : S) (call : BookCall) (says : Reply → List ℕ) (replied : T → Reply) (because : F → Reply) (fault_name : F → List ℕ) → ((fault : F) → says (because fault) ≡ refused (fault_name fault)) → (refusal : Refusal F) (text : List ℕ) → rules.does old call (answer_of replied because (Err refusal)) new → text ≡ refused (refusal_name fault_name refusal) → CallBy rules old call says text new
call-refused rules old new call says replied because fault_name named refusal text h is =
    (answer_of replied because (Err refusal), h, is ∙ says-refusal says replied because fault_name named refusal)

-- the line for a call on a scenario, by the book's result, is the response to its command
pub call-scenario : {S T F : Type 0} (rules : Rules S) (old new : S) (call : BookCall) (name : List ℕ) (what : Became) (replied : T → Reply) (because : F → Reply) (fault_name : F → List ℕ)
    → ((value : T) → scenario_says name (replied value) ≡ scenario_line name (became_word what)) → ((fault : F) → scenario_says name (because fault) ≡ refused (fault_name fault))
    → (result : Result T (Refusal F)) (text : List ℕ) → rules.does old call (answer_of replied because result) new → text ≡ scenario_outcome name what fault_name result → CallBy rules old call (scenario_says name) text new
call-scenario rules old new call name what replied because fault_name done named (Ok value) text h is = (outcome (replied value), h, is ∙ sym (done value))
call-scenario rules old new call name what replied because fault_name done named (Err refusal) text h is =
    call-refused rules old new call (scenario_says name) replied because fault_name named refusal text h is

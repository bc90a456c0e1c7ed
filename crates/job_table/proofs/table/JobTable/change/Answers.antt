use Rattle.chunks.specs.Chunks.{flat}
use Rattle.std.proofs.Common.{◌≡◌, ◌≤◌, ◌==◌, ℕ, Some, List, option_map, option_copied, is_some, ap, sym, subst, ◌∙◌, arith, length, if◌then◌else◌}
use Rattle.swf_text.specs.Entry.{LogEntry, submit_of, number_of_entry}
use Rattle.swf_text.specs.Log.{log_of, with_entry}
use Rattle.job_table.specs.Edit.{entry_of, without, changed}
use Rattle.job_table.proofs.Edited.{change-places, number-stays, log-changed}
use Rattle.job_table.specs.Table.{second_of}
use Rattle.job_table.proofs.Stored.{stored-moved, tells-again, outcome-of, entry-outcome}
use Rattle.job_table.proofs.Counted.{fewest-change, fewest-in-place, most-in-place, most-moved}
use Rattle.job_table.proofs.Tables.{placed-is}
use Rattle.job_table.proofs.table.JobTable.change.Goals as goal

pub unwrap-submit-requires : goal.unwrap-submit-requires
unwrap-submit-requires g c =
    ap is_some c.second.ensures ∙ outcome-of c.args.number (flat c.self.inside.rows) c.args.self.now (flat c.self.inside.index) c.self.invariant.index c.self.view_is c.requires.there

pub unwrap-was-requires : goal.unwrap-was-requires
unwrap-was-requires g c = entry-outcome c.args.number (flat c.self.inside.rows) c.args.self.now c.entry_at.result c.entry_at.ensures c.self.view_is c.requires.there

pub exchange-requires-clause-known : goal.exchange-requires-clause-known
exchange-requires-clause-known g c =
    let rows = flat c.self.inside.rows in
    let known : Some c.unwrap-submit.result ≡ option_map submit_of (entry_of c.args.number rows) = sym c.unwrap-submit.ensures ∙ c.second.ensures ∙ c.self.invariant.index.gives c.args.number in
    let later : 2 ≤ c.args.field = change-places c.args.field c.args.value c.requires.taken in
    let number : number_of_entry c.in_ok-entry.entry ≡ c.args.number = number-stays c.args.number c.args.field c.args.value rows c.unwrap-was.result.now c.in_ok-entry.entry later (sym c.entry_at.ensures ∙ ap option_copied c.unwrap-was.ensures) c.in_ok-entry.ensures in
    let at : Some (submit_of c.in_ok-entry.entry) ≡ Some c.unwrap-submit.result = ap Some (sym c.submit-at.ensures.second ∙ c.if-at-submit.true) in
    at ∙ subst (λ (m : ℕ). Some c.unwrap-submit.result ≡ option_map submit_of (entry_of m rows)) (sym number) known

pub with_moved-requires-clause-known : goal.with_moved-requires-clause-known
with_moved-requires-clause-known g c =
    let rows = flat c.self.inside.rows in
    let known : Some c.unwrap-submit.result ≡ option_map submit_of (entry_of c.args.number rows) = sym c.unwrap-submit.ensures ∙ c.second.ensures ∙ c.self.invariant.index.gives c.args.number in
    let later : 2 ≤ c.args.field = change-places c.args.field c.args.value c.requires.taken in
    let number : number_of_entry c.in_ok-entry.entry ≡ c.args.number = number-stays c.args.number c.args.field c.args.value rows c.unwrap-was.result.now c.in_ok-entry.entry later (sym c.entry_at.ensures ∙ ap option_copied c.unwrap-was.ensures) c.in_ok-entry.ensures in
    subst (λ (m : ℕ). Some c.unwrap-submit.result ≡ option_map submit_of (entry_of m rows)) (sym number) known

pub invariant_of-self-2 : goal.invariant_of-self-2
invariant_of-self-2 g c =
    let rows = flat c.self.inside.rows in
    let n = c.args.number in
    let entry : LogEntry = c.in_ok-entry.entry in
    let later : 2 ≤ c.args.field = change-places c.args.field c.args.value c.requires.taken in
    let there : entry_of n rows ≡ Some c.unwrap-was.result.now = sym c.entry_at.ensures ∙ ap option_copied c.unwrap-was.ensures in
    let number : number_of_entry entry ≡ n = number-stays n c.args.field c.args.value rows c.unwrap-was.result.now entry later there c.in_ok-entry.ensures in
    let moved : flat c.in_ok-rows.rows ≡ with_entry entry (without n rows) = c.in_ok-rows.ensures.rows ∙ ap (λ (m : ℕ). with_entry entry (without m rows)) number in
    stored-moved rows (flat c.in_ok-rows.rows) (flat c.self.inside.index) (flat c.set_second.new.index) c.self.inside.len c.self.invariant n c.submit-at.result c.unwrap-was.result.now entry there c.submit-at.ensures.entry number moved c.submit-at.ensures.second c.in_ok-set_second.ensures.set.rising c.in_ok-set_second.ensures.set.gives

pub returns-clause-ok : goal.returns-clause-ok
returns-clause-ok g c =
    let rows = flat c.self.inside.rows in
    let n = c.args.number in
    let entry : LogEntry = c.in_ok-entry.entry in
    let later : 2 ≤ c.args.field = change-places c.args.field c.args.value c.requires.taken in
    let there : entry_of n rows ≡ Some c.unwrap-was.result.now = sym c.entry_at.ensures ∙ ap option_copied c.unwrap-was.ensures in
    let number : number_of_entry entry ≡ n = number-stays n c.args.field c.args.value rows c.unwrap-was.result.now entry later there c.in_ok-entry.ensures in
    let moved : flat c.in_ok-rows.rows ≡ with_entry entry (without n rows) = c.in_ok-rows.ensures.rows ∙ ap (λ (m : ℕ). with_entry entry (without m rows)) number in
    moved ∙ sym (placed-is entry (without n rows)) ∙ log-changed n c.args.field c.args.value rows c.unwrap-was.result.now entry later c.self.invariant.table there c.in_ok-entry.ensures ∙ ap (λ (es : List LogEntry). log_of (changed n c.args.field c.args.value es)) c.self.view_is

pub invariant_of-self-then-at-submit : goal.invariant_of-self-then-at-submit
invariant_of-self-then-at-submit g c =
    let rows = flat c.self.inside.rows in
    let n = c.args.number in
    let entry : LogEntry = c.in_ok-entry.entry in
    let later : 2 ≤ c.args.field = change-places c.args.field c.args.value c.requires.taken in
    let there : entry_of n rows ≡ Some c.unwrap-was.result.now = sym c.entry_at.ensures ∙ ap option_copied c.unwrap-was.ensures in
    let number : number_of_entry entry ≡ n = number-stays n c.args.field c.args.value rows c.unwrap-was.result.now entry later there c.in_ok-entry.ensures in
    let moved : flat c.exchange.new.rows ≡ with_entry entry (without n rows) = c.in_ok-exchange.ensures.rows ∙ ap (λ (m : ℕ). with_entry entry (without m rows)) number in
    let again : (q : ℕ) → second_of (flat c.self.inside.index) q ≡ (if n == q then Some c.submit-at.result else second_of (flat c.self.inside.index) q) = tells-again n c.submit-at.result (flat c.self.inside.index) (ap Some c.if-at-submit.true ∙ sym c.unwrap-submit.ensures ∙ c.second.ensures) in
    stored-moved rows (flat c.exchange.new.rows) (flat c.self.inside.index) (flat c.self.inside.index) c.self.inside.len c.self.invariant n c.submit-at.result c.unwrap-was.result.now entry there c.submit-at.ensures.entry number moved c.submit-at.ensures.second c.self.invariant.index.rising again

pub returns-then-at-submit-clause-ok : goal.returns-then-at-submit-clause-ok
returns-then-at-submit-clause-ok g c =
    let rows = flat c.self.inside.rows in
    let n = c.args.number in
    let entry : LogEntry = c.in_ok-entry.entry in
    let later : 2 ≤ c.args.field = change-places c.args.field c.args.value c.requires.taken in
    let there : entry_of n rows ≡ Some c.unwrap-was.result.now = sym c.entry_at.ensures ∙ ap option_copied c.unwrap-was.ensures in
    let number : number_of_entry entry ≡ n = number-stays n c.args.field c.args.value rows c.unwrap-was.result.now entry later there c.in_ok-entry.ensures in
    let moved : flat c.exchange.new.rows ≡ with_entry entry (without n rows) = c.in_ok-exchange.ensures.rows ∙ ap (λ (m : ℕ). with_entry entry (without m rows)) number in
    moved ∙ sym (placed-is entry (without n rows)) ∙ log-changed n c.args.field c.args.value rows c.unwrap-was.result.now entry later c.self.invariant.table there c.in_ok-entry.ensures ∙ ap (λ (es : List LogEntry). log_of (changed n c.args.field c.args.value es)) c.self.view_is

pub returns-clause-least : goal.returns-clause-least
returns-clause-least g c =
    let long : length (flat c.self.inside.rows) ≡ length c.args.self.now = ap length c.self.view_is in
    fewest-change c.args.number c.args.field c.args.value c.args.self.now _ (omega (arith, c.in_ok-set_second.ensures.least, c.in_ok-rows.ensures.least))
    (λ two. omega (arith, c.in_ok-set_second.ensures.least, c.in_ok-rows.ensures.both (omega (arith, two, long))))

pub returns-clause-most : goal.returns-clause-most
returns-clause-most g c =
    let was : LogEntry = c.unwrap-was.result.now in
    let there : entry_of c.args.number (flat c.self.inside.rows) ≡ Some was = sym c.entry_at.ensures ∙ ap option_copied c.unwrap-was.ensures in
    let second : Some c.unwrap-submit.result ≡ Some (submit_of was) = sym c.unwrap-submit.ensures ∙ c.second.ensures ∙ c.self.invariant.index.gives c.args.number ∙ ap (option_map submit_of) there in
    most-moved c.args.number c.args.field c.args.value c.args.self.now was c.unwrap-submit.result c.submit-at.result c.in_ok-entry.entry
    (ap (entry_of c.args.number) (sym c.self.view_is) ∙ there) c.in_ok-entry.ensures second c.submit-at.ensures.second _ c.if-at-submit.false (omega (arith, c.in_ok-set_second.ensures.most, c.in_ok-rows.ensures.most))

pub returns-then-at-submit-clause-least : goal.returns-then-at-submit-clause-least
returns-then-at-submit-clause-least g c =
    let was : LogEntry = c.unwrap-was.result.now in
    let there : entry_of c.args.number (flat c.self.inside.rows) ≡ Some was = sym c.entry_at.ensures ∙ ap option_copied c.unwrap-was.ensures in
    let second : Some c.unwrap-submit.result ≡ Some (submit_of was) = sym c.unwrap-submit.ensures ∙ c.second.ensures ∙ c.self.invariant.index.gives c.args.number ∙ ap (option_map submit_of) there in
    fewest-in-place c.args.number c.args.field c.args.value c.args.self.now was c.unwrap-submit.result c.submit-at.result c.in_ok-entry.entry
    (ap (entry_of c.args.number) (sym c.self.view_is) ∙ there) c.in_ok-entry.ensures second c.submit-at.ensures.second _ c.if-at-submit.true (omega (arith, c.in_ok-exchange.ensures.least))

pub returns-then-at-submit-clause-most : goal.returns-then-at-submit-clause-most
returns-then-at-submit-clause-most g c =
    let was : LogEntry = c.unwrap-was.result.now in
    let there : entry_of c.args.number (flat c.self.inside.rows) ≡ Some was = sym c.entry_at.ensures ∙ ap option_copied c.unwrap-was.ensures in
    let second : Some c.unwrap-submit.result ≡ Some (submit_of was) = sym c.unwrap-submit.ensures ∙ c.second.ensures ∙ c.self.invariant.index.gives c.args.number ∙ ap (option_map submit_of) there in
    most-in-place c.args.number c.args.field c.args.value c.args.self.now was c.unwrap-submit.result c.submit-at.result c.in_ok-entry.entry
    (ap (entry_of c.args.number) (sym c.self.view_is) ∙ there) c.in_ok-entry.ensures second c.submit-at.ensures.second _ c.if-at-submit.true (omega (arith, c.in_ok-exchange.ensures.most))

use Rattle.std.proofs.Common.{List, length, map, ap, sym, subst, arith, ◌∙◌}
use Rattle.std.specs.List.Sorted.{IsPermutation}
use Rattle.std.proofs.lemmas.List.Sorted.{IsPermutation-map, IsPermutation-sym, IsPermutation-trans}
use Rattle.chunks.specs.Chunks.{flat}
use Rattle.chunks.specs.declared.numbered.Numbered.{Numbered}
use Rattle.swf_text.specs.Entry.{LogEntry}
use Rattle.swf_text.specs.Log.{log_of}
use Rattle.job_table.specs.Table.{IsTable, IsIndex, pair_of}
use Rattle.job_table.proofs.Indexed.{index-sorted}
use Rattle.job_table.proofs.LogOrder.{log_of-permutes}
use Rattle.job_table.proofs.Tables.{log-counted}
use Rattle.job_table.proofs.Sorted.{log-table}
use Rattle.job_table.proofs.table.JobTable.of_entries.Goals as goal

pub arrange-requires-clause-pairs : goal.arrange-requires-clause-pairs
arrange-requires-clause-pairs g c = c.as_slice-2.ensures.value ∙ c.in_ok-pairs.ensures ∙ ap (map pair_of) c.as_slice.ensures.value

pub invariant_of-result : goal.invariant_of-result
invariant_of-result g c =
    let es : List LogEntry = c.args.entries.items in
    let table = log-table es c.requires in
    let found : List Numbered = flat c.in_ok-index.index in
    let pairs : IsPermutation (map pair_of es) found = subst (λ (ps : List Numbered). IsPermutation ps found) (c.in_ok-pairs.ensures ∙ ap (map pair_of) c.as_slice.ensures.value) c.in_ok-index.ensures.same in
    let sorted : IsPermutation (map pair_of (log_of es)) found = IsPermutation-trans _ _ _ (IsPermutation-sym _ _ (IsPermutation-map pair_of es (log_of es) (log_of-permutes es))) pairs in
    record {
      table = subst IsTable (sym (c.in_ok-rows.ensures.list ∙ c.in_ok-arrange.ensures)) table;
      index = subst (λ (l : List LogEntry). IsIndex found l) (sym (c.in_ok-rows.ensures.list ∙ c.in_ok-arrange.ensures)) (index-sorted (log_of es) found (log-counted (log_of es) table.log) sorted c.in_ok-index.ensures.order);
      count = omega (arith, c.arrange.new.entries.ok.0, ap length c.in_ok-rows.ensures.list);
    }

pub returns : goal.returns
returns g c = c.in_ok-rows.ensures.list ∙ c.in_ok-arrange.ensures

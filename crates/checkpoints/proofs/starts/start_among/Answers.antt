use Rattle.std.proofs.Common.{ℕ, Option, ap, sym, ◌∙◌, rules}
use Rattle.std.specs.Option.{option_map}
use Rattle.std.proofs.lemmas.List.Sorted.{IsPartitionPoint-from_clause, IsPartitionedBy-ltb}
use Rattle.easy_rule.specs.declared.start.Start.{Start}
use Rattle.checkpoints.proofs.Searches.{is_less, none-there, other-there, found-there}
use Rattle.checkpoints.proofs.starts.start_among.Goals as goal

abbrev number : Start → ℕ
number x = x.number

pub returns-in_err-found : goal.returns-in_err-found
returns-in_err-found c =
    let parted = IsPartitionedBy-ltb number c.args.starts.now c.args.number c.requires in
    let point = IsPartitionPoint-from_clause (is_less number c.args.number) c.args.starts.now c.partition_point-place.result c.partition_point-place.ensures.partitioned parted (λ a r q k. search rules) in
    let none = none-there number c.args.starts.now c.args.number c.partition_point-place.result point c.in_err-found.ensures.lookup.3 in
    c.from_residual.ensures ∙ sym (ap (λ (o : Option Start). option_map (λ (x : Start). x.at) o) none)

pub returns-then-found-number : goal.returns-then-found-number
returns-then-found-number c =
    let parted = IsPartitionedBy-ltb number c.args.starts.now c.args.number c.requires in
    let point = IsPartitionPoint-from_clause (is_less number c.args.number) c.args.starts.now c.partition_point-place.result c.partition_point-place.ensures.partitioned parted (λ a r q k. search rules) in
    let k = c.in_ok-found.ensures.lookup in
    let none = other-there number c.args.starts.now c.args.number c.partition_point-place.result c.in_ok-found.found.now point c.requires k.3.0 k.1 c.if-found-number.true in
    sym (ap (λ (o : Option Start). option_map (λ (x : Start). x.at) o) none)

pub returns : goal.returns
returns c =
    let parted = IsPartitionedBy-ltb number c.args.starts.now c.args.number c.requires in
    let point = IsPartitionPoint-from_clause (is_less number c.args.number) c.args.starts.now c.partition_point-place.result c.partition_point-place.ensures.partitioned parted (λ a r q k. search rules) in
    let k = c.in_ok-found.ensures.lookup in
    let some = found-there number c.args.starts.now c.args.number c.partition_point-place.result c.in_ok-found.found.now point k.3.0 k.1 c.if-found-number.false in
    sym (ap (λ (o : Option Start). option_map (λ (x : Start). x.at) o) some)

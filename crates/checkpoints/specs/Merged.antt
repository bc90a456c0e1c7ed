-- Parts merged into one.
use Rattle.std.specs.Prelude.{◌≤◌, List, length}
use Rattle.std.specs.List.{AllZip, flat_map}
use Rattle.swf_text.specs.Limits.{entry_limit}
use Rattle.scenarios.specs.declared.placed.Placed.{Placed}
use Rattle.metrics.specs.Part.{PartSums, IsPartOf}

-- all jobs of some lists of them, one list after another
abbrev pub joined : List (List Placed) → List Placed
joined lists = flat_map (λ ps. ps) lists

-- The part is the merged one of some parts: of whatever jobs each of them is the part, it is that of all of these.
abbrev pub IsMerged : List PartSums → PartSums → Type 0
IsMerged vs v = (lists : List (List Placed)) → AllZip IsPartOf lists vs → IsPartOf (joined lists) v

-- the parts are those of some jobs, together no more than a log may have
pub record AreFew (vs : List PartSums) : Type 0 where
  pub lists : List (List Placed)
  pub parts : AllZip IsPartOf lists vs
  pub few : length (joined lists) ≤ entry_limit

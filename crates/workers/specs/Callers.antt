-- Sessions and workers, as those who use them see them.
use Rattle.std.specs.Prelude.{ℕ, ◌+◌, ◌≡◌, ◌<◌, nat_lt, if◌then◌else◌, max, List, [], Option, None, Some, Result, Ok, Err}
use Rattle.chronicle.specs.Fronts.{Seen}
use Rattle.workers.specs.Lists.{ListedView}

-- a session: its number, the calls that it made with their replies, the greatest version that an edit or a view returned, and
-- the history of the desk up to its last response
pub record SessionView : Type 0 where
  pub number : ℕ
  pub list : List ListedView
  pub seen : ℕ
  pub front : Seen

-- a worker: its number, the calls that it made with their replies, and the history of the desk up to its last response
pub record WorkerView : Type 0 where
  pub number : ℕ
  pub list : List ListedView
  pub front : Seen

-- the most sessions that a desk opens, and the most workers
abbrev pub callers_limit : ℕ
callers_limit = 64

-- the number of the next caller of a kind, where this many were opened
abbrev pub next_caller : ℕ → Option ℕ
next_caller opened = if nat_lt opened callers_limit then Some opened else None

-- how many were opened then
abbrev pub opened_after : ℕ → ℕ
opened_after opened = if nat_lt opened callers_limit then opened + 1 else opened

-- a caller that has made no call
abbrev pub new_session : ℕ → Seen → SessionView
new_session number front = record { number = number; list = []; seen = 0; front = front }

abbrev pub new_worker : ℕ → Seen → WorkerView
new_worker number front = record { number = number; list = []; front = front }

-- one that was just opened, under a number below the limit
abbrev pub IsNewSession : SessionView → Type 0
IsNewSession s = (s ≡ new_session s.number s.front) × (s.number < callers_limit)

abbrev pub IsNewWorker : WorkerView → Type 0
IsNewWorker w = (w ≡ new_worker w.number w.front) × (w.number < callers_limit)

-- what a session has seen after an edit
abbrev pub seen_after : {E : Type 0} → ℕ → Result ℕ E → ℕ
seen_after seen (Ok version) = max seen version
seen_after seen (Err refusal) = seen

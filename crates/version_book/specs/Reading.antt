-- What is read of a book at one moment.
use Rattle.std.specs.Prelude.{ℕ, List}
use Rattle.std.specs.Arc.{arc_value}
use Rattle.swf_text.specs.Entry.{LogEntry}
use Rattle.scenarios.specs.ScenarioList.{Listing}
use Rattle.book_machine.specs.Machine.{Machine, current, version}
use Rattle.version_book.specs.declared.reading.Reading.{Reading}

-- the version, its log and the scenarios
pub record Moment : Type 0 where
  pub version : ℕ
  pub log : List LogEntry
  pub listing : Listing

abbrev pub moment_of : {A : Type 0} → Reading A → Moment
moment_of reading = record { version = reading.version; log = arc_value reading.table; listing = reading.scenarios }

-- the moment at which the book machine stands
abbrev pub present : Machine → Moment
present m = record { version = version m; log = current m; listing = m.listing }

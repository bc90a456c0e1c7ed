-- Notes without the memory that holds them.
use Rattle.job_table.specs.Edit.{LogEdit, Insert, Remove, Change}
use Rattle.book_machine.specs.declared.noted_edit.NotedEdit.{NotedEdit}
use Rattle.book_machine.specs.declared.noted_edit.NotedEdit.TheVariants as edits
use Rattle.book_machine.specs.declared.call.Call.{Call}
use Rattle.book_machine.specs.declared.call.Call.TheVariants as calls
use Rattle.book_machine.specs.declared.note.Note.{Note}
use Rattle.book_machine.specs.Call.{BookCall, Edit, AddScenario, DropScenario, Retry, Claim, Finish, GiveUp, View}
use Rattle.book_machine.specs.History.{Noted}

abbrev pub noted_edit_of : {A : Type 0} → NotedEdit A → LogEdit
noted_edit_of (edits.Insert entry) = Insert entry
noted_edit_of (edits.Remove number) = Remove number
noted_edit_of (edits.Change number place value) = Change number place value

abbrev pub call_of : {A : Type 0} → Call A → BookCall
call_of (calls.Edit edit) = Edit (noted_edit_of edit)
call_of (calls.AddScenario name scenario) = AddScenario name scenario
call_of (calls.DropScenario name) = DropScenario name
call_of (calls.Retry id) = Retry id
call_of calls.Claim = Claim
call_of (calls.Finish ticket fits) = Finish ticket fits
call_of (calls.GiveUp ticket) = GiveUp ticket
call_of (calls.View id seen) = View id seen

abbrev pub noted_of : {A : Type 0} → Note A → Noted
noted_of note = record { caller = note.caller; call = call_of note.call; reply = note.reply }

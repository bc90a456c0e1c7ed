-- What crates above cite of these proofs (words, lines, answers, job lines, numbers, and texts that are read and written), passed
-- on from one place. Declares nothing.
pub use Rattle.swf_text.proofs.Numbers.{and_first, and_second, Spells-number_of, number_of-Spells}
pub use Rattle.swf_text.proofs.Words.{fields-blank, fields-next, fields-end, word_left, no_word_left, onto, onto-value_then}
pub use Rattle.swf_text.proofs.Plains.{solid_fields}
pub use Rattle.swf_text.proofs.Texts.{line_found, rest_found, line_none, rest_none, lines-next, after-shorter}
pub use Rattle.swf_text.proofs.Texts.{with_lines-append, read_none, at_end}
pub use Rattle.swf_text.proofs.Outcomes.{gives_text, gives_only, gives_fault, reached}
pub use Rattle.swf_text.proofs.Entries.{entry_sound}
pub use Rattle.swf_text.proofs.Grammars.{exact_number, text_read}
pub use Rattle.swf_text.proofs.Spellings.{spelled}
pub use Rattle.swf_text.proofs.Writings.{front_more, front_after, writes_then}
pub use Rattle.swf_text.proofs.Trips.{read_again}
pub use Rattle.swf_text.proofs.Bounds.{readings_at}
pub use Rattle.swf_text.proofs.Bounds.{lines_fault}
pub use Rattle.swf_text.proofs.Kept.{text_sound, one_text, gives_comments}

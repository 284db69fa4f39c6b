-- The lines of a listing (own rule). A text is its bytes in UTF-8.
use Rattle.std.specs.Prelude.{ℕ, List, ◌++◌, codes, decimal}
use Rattle.record_lines.specs.Lines.{record_text}
use Rattle.sync_record.specs.Records.{FileRecord}

abbrev pub best_line : FileRecord → List ℕ
best_line r = codes "best " ++ record_text r ++ codes "\n"

abbrev pub skipped_line : ℕ → List ℕ
skipped_line count = codes "skipped " ++ decimal count ++ codes "\n"

-- The text of a reply.
use Rattle.std.specs.Prelude.{ℕ, ◌+◌, codes, decimal, length, List, [], ◌∷◌, ◌++◌}
use Rattle.std.specs.List.{flat_map}
use Rattle.gx_geom.specs.Refusals.{refusal_number, refusal_text}
use Rattle.gx_machine.specs.declared.entry.Entry.{Entry}
use Rattle.gx_machine.specs.declared.reply.Reply.{Reply}
use Rattle.gx_machine.specs.declared.reply.Reply.TheVariants.{Ok, Inserted, Deleted, Found, Committed, Aborted, Refused}
use Rattle.gx_script.specs.Corners.{Grammar, spaced}

-- a line: the session's number, a space, the reply's words, and a line feed
abbrev pub told_line : ℕ → List ℕ → List ℕ
told_line session told = decimal session ++ (32 ∷ (told ++ (10 ∷ [])))

-- an entry: its row, then its corners
abbrev pub entry_line : {B : Type 0} → Grammar B → ℕ → Entry B → List ℕ
entry_line grammar session e = told_line session (codes "entry " ++ (decimal e.row ++ spaced (grammar.corners e.key)))

-- the lines of a reply: one, and one more for each entry that was found
abbrev pub reply_text : {B : Type 0} → Grammar B → ℕ → Reply B → List ℕ
reply_text grammar session Ok = told_line session (codes "ok")
reply_text grammar session Inserted = told_line session (codes "inserted")
reply_text grammar session Deleted = told_line session (codes "deleted")
reply_text grammar session (Found entries) =
    told_line session (codes "found " ++ decimal (length entries)) ++ flat_map (entry_line grammar session) entries
reply_text grammar session (Committed number) = told_line session (codes "committed " ++ decimal number)
reply_text grammar session Aborted = told_line session (codes "aborted")
reply_text grammar session (Refused why) =
    told_line session (codes "refused " ++ (decimal (refusal_number why) ++ (32 ∷ refusal_text why)))

-- the line for a line that asks nothing, by its number
abbrev pub bad_line : ℕ → List ℕ
bad_line number = codes "line " ++ (decimal number ++ (codes " bad" ++ (10 ∷ [])))

-- how many lines a reply has
abbrev pub reply_lines : {B : Type 0} → Reply B → ℕ
reply_lines Ok = 1
reply_lines Inserted = 1
reply_lines Deleted = 1
reply_lines (Found entries) = 1 + length entries
reply_lines (Committed number) = 1
reply_lines Aborted = 1
reply_lines (Refused why) = 1

-- A life of the worked index, with its states and their sets.
use Rattle.std.specs.Prelude.{ℕ, zero, suc, ◌+◌, ◌-◌, Bool, true, false, ◌==◌, if◌then◌else◌, filter, List, [], ◌∷◌}
use Rattle.gx_recovery.specs.Records.{Whole, Record, Pages, Adjust, Write, Commit, End, Counters}
use Rattle.gx_recovery.specs.Standing.{stands_for, view_of}
use Rattle.gx_recovery.specs.Logged.{Logged, durable, latest, kept, appended, begun, gate_synced}
use Rattle.gx_recovery.specs.Renewal.{renewed, renewed_over}
use Rattle.gx_recovery.specs.Life.{LogStep, Appends, Begins, Syncs, WritesPages, Renews, Restarts}
use Rattle.gx_recovery.specs.Worked.{Content, leaf, live, marked, worked, fresh_head, small_insert, sweeping, insert}

-- as formatting leaves it: empty leaves, and a log of counters alone
abbrev pub fresh : Logged ℕ Content
fresh = record { area = λ p. leaf p []; gated = fresh_head ∷ []; flight = []; filling = [] }

-- transaction 1 inserts entry 7 and commits
abbrev pub insert_7 : Record ℕ Content
insert_7 = Write 1 7 true false 2 (Whole (leaf 2 (live 7 ∷ [])))

abbrev pub commit_1 : Record ℕ Content
commit_1 = Commit 1 1

-- transaction 2 inserts entry 8, and says of page 2 only that, since the log gives it; a split moves the entry to page 3,
-- and transaction 2 deletes entry 7
abbrev pub insert_8 : Record ℕ Content
insert_8 = small_insert 2 8

abbrev pub split : Record ℕ Content
split = Pages (record { page = 2; content = leaf 2 (live 7 ∷ []) } ∷ record { page = 3; content = leaf 3 (live 8 ∷ []) } ∷ []) 1 3

abbrev pub delete_7 : Record ℕ Content
delete_7 = Write 2 7 false true 2 (Whole (leaf 2 (marked 7 ∷ [])))

-- after a restart, transaction 2 is undone: each entry gets its first mark before, and the split stays
abbrev pub restore_7 : Record ℕ Content
restore_7 = Write 2 7 true false 2 (Whole (leaf 2 (live 7 ∷ [])))

abbrev pub restore_8 : Record ℕ Content
restore_8 = Write 2 8 false true 3 (Whole (leaf 3 (marked 8 ∷ [])))

abbrev pub end_2 : Record ℕ Content
end_2 = End 2

-- what is marked and claimed by no session is swept, by a small change of no transaction
abbrev pub sweep_8 : Record ℕ Content
sweep_8 = Adjust 3 (sweeping 8)

-- page 2 is written, and the write of page 3 is torn
abbrev pub torn : ℕ → Content
torn p = if 2 == p then leaf 2 (marked 7 ∷ []) else if 3 == p then leaf 9 (live 99 ∷ []) else leaf p []

-- the first commit, up to its batch in flight; then durable
abbrev pub in_flight : Logged ℕ Content
in_flight = begun (appended commit_1 (appended insert_7 fresh))

abbrev pub committed : Logged ℕ Content
committed = gate_synced in_flight

-- another life, in which transaction 2 commits the insert of 8
abbrev pub second : Logged ℕ Content
second = appended (Commit 2 2) (appended insert_8 committed)

-- the loser's batch is gated, and pages are written, one torn
abbrev pub losing : Logged ℕ Content
losing = gate_synced (begun (appended delete_7 (appended split (appended insert_8 committed))))

abbrev pub half_written : Logged ℕ Content
half_written = record losing { area = torn }

-- a crash, and an opening; then undo, and all of it gated
abbrev pub reopened : Logged ℕ Content
reopened = renewed_over worked 3 torn losing.gated

-- in the midst of undo: entry 7 is restored, entry 8 isn't yet
abbrev pub undoing : Logged ℕ Content
undoing = appended restore_7 reopened

abbrev pub undone : Logged ℕ Content
undone = gate_synced (begun (appended sweep_8 (appended end_2 (appended restore_8 (appended restore_7 reopened)))))

-- all pages are written; and a checkpoint, while transactions 3 and 4 have begun and written nothing
abbrev pub all_written : ℕ → Content
all_written p = if 3 == p then leaf 3 [] else if 2 == p then leaf 2 (live 7 ∷ []) else reopened.area p

abbrev pub written : Logged ℕ Content
written = record undone { area = all_written }

abbrev pub renewed_last : Logged ℕ Content
renewed_last = record written { gated = renewed worked 5 written.gated }

-- the steps of this life
abbrev pub worked_steps : List (LogStep ℕ Content)
worked_steps =
    Appends insert_7 ∷ Appends commit_1 ∷ Begins ∷ Syncs
    ∷ Appends insert_8 ∷ Appends split ∷ Appends delete_7 ∷ Begins ∷ Syncs ∷ WritesPages torn
    ∷ Restarts 3 torn losing.gated
    ∷ Appends restore_7 ∷ Appends restore_8 ∷ Appends end_2 ∷ Appends sweep_8 ∷ Begins ∷ Syncs ∷ WritesPages all_written ∷ Renews 5 ∷ []

-- the entries among 6 to 9 that pass a test
abbrev pub members : (ℕ → Bool) → List ℕ
members test = filter test (6 ∷ 7 ∷ 8 ∷ 9 ∷ [])

abbrev pub sets_from : ℕ → ℕ → Logged ℕ Content → List (List ℕ)
sets_from zero number s = []
sets_from (suc count) number s = members (kept worked s number) ∷ sets_from count (number + 1) s

-- the kept sets of a state, from the durable one to the last
abbrev pub sets_of : Logged ℕ Content → List (List ℕ)
sets_of s = sets_from (latest worked s + 1 - durable worked s) (durable worked s) s

-- what a log over a page area stands for
abbrev pub stood_for : (ℕ → Content) → List (Record ℕ Content) → List ℕ
stood_for area log = members (stands_for worked area log)

-- the view of a transaction in a log
abbrev pub seen_by : ℕ → (ℕ → Content) → List (Record ℕ Content) → List ℕ
seen_by t area log = members (view_of worked t area log)

-- What the rules prevent. Page 2 is written before its record is gated.
abbrev pub too_early : ℕ → Content
too_early p = if 2 == p then leaf 2 (live 7 ∷ []) else leaf p []

-- a checkpoint leaves out the notes
abbrev pub noteless : List (Record ℕ Content)
noteless = Counters 1 1 3 3 ∷ []

-- a batch is read behind one whose gate is closed
abbrev pub past_a_gate : List (Record ℕ Content)
past_a_gate = fresh_head ∷ delete_7 ∷ []

-- a transaction ends with nothing restored
abbrev pub ended_early : Logged ℕ Content
ended_early = appended end_2 reopened

-- page 2 is written, and that write is torn; the log says of it only what is added, or gives it whole
abbrev pub torn_page : ℕ → Content
torn_page p = if 2 == p then leaf 2 (live 9 ∷ []) else leaf p []

abbrev pub imageless : List (Record ℕ Content)
imageless = fresh_head ∷ small_insert 1 8 ∷ []

abbrev pub imaged : List (Record ℕ Content)
imaged = fresh_head ∷ insert 1 8 ∷ []

-- two transactions have written one entry
abbrev pub shared : List (Record ℕ Content)
shared = fresh_head ∷ insert_7 ∷ delete_7 ∷ []

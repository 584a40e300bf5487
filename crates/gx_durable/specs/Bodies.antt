-- The bodies of a log, read one by one: two cuts of the same bytes into bodies are two logs, and one may be damaged.
use Rattle.std.specs.Prelude.{ℕ, List, [], ◌∷◌}
use Rattle.gx_recovery.specs.Records.{Record}
use Rattle.gx_durable.specs.Spelled.{Reading, AreRecords}

-- the bytes of each body are the records of that body
abbrev pub AreBodies : {E P : Type 0} → Reading E P → List (List ℕ) → List (List (Record E P)) → Type 0
AreBodies r [] [] = Unit {0}
AreBodies r [] (records ∷ told) = ⊥
AreBodies r (body ∷ bodies) [] = ⊥
AreBodies r (body ∷ bodies) (records ∷ told) = AreRecords r body records × AreBodies r bodies told

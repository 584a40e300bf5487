-- All that a class's traits say of it, as one value: in a clause `K.ReadKeys` is one.
use Rattle.std.specs.Prelude.{ℕ, Bool, List, Option}
use Rattle.gx_machine.specs.declared.query.Query.{Query}
use Rattle.gx_class.specs.declared.class.KeyClass.{Ghosts}

-- what `KeyClass` and `ReadKeys` say of keys of a type
abbrev pub Traits : Type 0 → Type 1
Traits B = record { CLASS : ℕ; KEY : ℕ; is_key : B → Type 0; start_key : B; may_match : Query B → B → Bool; joined : B → B → B; cost : B → B → ℕ × ℕ; sides_of : List B → ℕ → List Bool; spelling : B → List ℕ; reading : List ℕ → Option B; said : List ℕ → B; is_proper : B → Bool }

-- what `KeyClass` alone says of them
abbrev pub own : {B : Type 0} → Traits B → Ghosts (Unit {0}) B
own t = record {
  CLASS = t.CLASS;
  KEY = t.KEY;
  is_key = t.is_key;
  start_key = t.start_key;
  may_match = t.may_match;
  joined = t.joined;
  cost = t.cost;
  sides_of = t.sides_of;
  spelling = t.spelling;
  reading = t.reading;
}

-- both, from what `ReadKeys` and `KeyClass` say
abbrev pub traits_of : {C B : Type 0} → (B → Bool) → (List ℕ → B) → Ghosts C B → Traits B
traits_of is_proper said class = record {
  CLASS = class.CLASS;
  KEY = class.KEY;
  is_key = class.is_key;
  start_key = class.start_key;
  may_match = class.may_match;
  joined = class.joined;
  cost = class.cost;
  sides_of = class.sides_of;
  spelling = class.spelling;
  reading = class.reading;
  said = said;
  is_proper = is_proper;
}

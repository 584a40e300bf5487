-- The number and the text of each refusal.
use Rattle.std.specs.Prelude.{ℕ, List, ◌++◌, codes, decimal}
use Rattle.gx_geom.specs.declared.refusal.Refusal.{Refusal}
use Rattle.gx_geom.specs.declared.refusal.Refusal.TheVariants.{NoTransaction, InTransaction, Present, Absent, Busy, BadBox, PagesFull, ClaimsFull, PredicatesFull, Memory, Device, Failed, Damaged, NotFormatted, BadSession, CallOpen, TooSmall, BadParameter, NoCall, HistoryFull, OldVersion}

abbrev pub refusal_number : Refusal → ℕ
refusal_number NoTransaction = 1
refusal_number InTransaction = 2
refusal_number Present = 3
refusal_number Absent = 4
refusal_number (Busy session) = 5
refusal_number BadBox = 6
refusal_number PagesFull = 7
refusal_number ClaimsFull = 8
refusal_number PredicatesFull = 9
refusal_number Memory = 10
refusal_number Device = 11
refusal_number Failed = 12
refusal_number Damaged = 13
refusal_number NotFormatted = 14
refusal_number BadSession = 15
refusal_number CallOpen = 16
refusal_number TooSmall = 17
refusal_number BadParameter = 18
refusal_number NoCall = 19
refusal_number HistoryFull = 20
refusal_number OldVersion = 21

abbrev pub refusal_text : Refusal → List ℕ
refusal_text NoTransaction = codes "no transaction"
refusal_text InTransaction = codes "in transaction"
refusal_text Present = codes "present"
refusal_text Absent = codes "absent"
refusal_text (Busy session) = codes "busy " ++ decimal session
refusal_text BadBox = codes "bad box"
refusal_text PagesFull = codes "pages full"
refusal_text ClaimsFull = codes "claims full"
refusal_text PredicatesFull = codes "predicates full"
refusal_text Memory = codes "memory"
refusal_text Device = codes "device"
refusal_text Failed = codes "failed"
refusal_text Damaged = codes "damaged"
refusal_text NotFormatted = codes "not formatted"
refusal_text BadSession = codes "bad session"
refusal_text CallOpen = codes "call open"
refusal_text TooSmall = codes "too small"
refusal_text BadParameter = codes "bad parameter"
refusal_text NoCall = codes "no call"
refusal_text HistoryFull = codes "history full"
refusal_text OldVersion = codes "old version"

-- It owns nothing, so it may go to another thread.
use denote.RattleType.{RattleType}
use denote.Param.Send.{IsSend}
use Rattle.gx_shared.specs.contracts.trail.Trail.{the_row}

pub send : (T : RattleType) → IsSend (the_row T)
send T = record { owned = λ seen vs. ((λ vss. (tt, ((λ uss. (tt, tt)), tt))), tt); leaving = λ k seen w. tt }

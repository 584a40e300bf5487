use Rattle.gx_events.proofs.WhatStood.{failed_kind, failed_same}
use Rattle.gx_events.proofs.engine_laws.a_failed_engine_only_refuses.Goals as goal

pub returns-clause-kinds : goal.returns-clause-kinds
returns-clause-kinds g c = λ k old new event failed is. failed_kind k old new failed event is

pub returns-clause-same : goal.returns-clause-same
returns-clause-same g c = λ k old new event failed is shut. failed_same k old new failed event is shut

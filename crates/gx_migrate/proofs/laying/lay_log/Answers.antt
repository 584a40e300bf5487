use Rattle.std.proofs.Common.{Err, ℕ, List, [], ◌∷◌, ◌++◌, replicate}
use Rattle.std.proofs.lemmas.Result.{err_from_is_err_and}
use Rattle.gx_glog.specs.declared.parameters.TheConstants.{PARAMETERS}
use Rattle.gx_glog.specs.declared.extent.TheConstants.{BODIES_A, BODY_SECTORS, GATES_A, GATES_B, PLACES, SELECTOR}
use Rattle.gx_glog.specs.declared.extent.Extent.TheVariants.{A}
use Rattle.gx_glog.specs.First.{closed_gates_bytes, open_gate_bytes, selector_bytes}
use Rattle.gx_glog.specs.Parameters.{parameters_bytes}
use Rattle.gx_format.specs.Calls.{Call, Write, Sync}
use Rattle.gx_format.proofs.Running.{goes_on, ends_there, run_joined}
use Rattle.gx_migrate.proofs.laying.lay_log.Goals as goal

-- the calls of each part
abbrev told : List ℕ → List Call
told parameters = Write PARAMETERS 1 parameters ∷ Write SELECTOR 1 (selector_bytes A) ∷ []

abbrev gates : List Call
gates = Write GATES_A PLACES closed_gates_bytes ∷ Write GATES_B PLACES closed_gates_bytes ∷ []

abbrev body : List ℕ → List Call
body bytes = Write BODIES_A BODY_SECTORS bytes ∷ Sync ∷ []

abbrev opening : List Call
opening = Write GATES_A 1 open_gate_bytes ∷ Sync ∷ []

pub returns-in_err-close_gates-clause-runs : goal.returns-in_err-close_gates-clause-runs
returns-in_err-close_gates-clause-runs g c =
    let s = g.D.SectorDisk.state in
    let one = told (parameters_bytes c.args.parameters.now ++ replicate 504 0) in
    let bytes = c.args.body.now in
    let p = err_from_is_err_and c.from_residual-in_err-close_gates.result c.from_residual-in_err-close_gates.ensures.1 in
    rw (p.1, p.2) (goes_on s one (gates ++ (body bytes ++ opening)) c.args.disk.now c.lay_parameters.new.disk c.close_gates.new.disk (Err c.in_err-close_gates.field-0.0) c.in_ok-lay_parameters.ensures.runs
    (ends_there s gates (body bytes ++ opening) c.lay_parameters.new.disk c.close_gates.new.disk c.in_err-close_gates.field-0.0 c.in_err-close_gates.ensures.runs))

pub returns-in_err-lay_body-clause-runs : goal.returns-in_err-lay_body-clause-runs
returns-in_err-lay_body-clause-runs g c =
    let s = g.D.SectorDisk.state in
    let one = told (parameters_bytes c.args.parameters.now ++ replicate 504 0) in
    let bytes = c.args.body.now in
    let p = err_from_is_err_and c.from_residual-in_err-lay_body.result c.from_residual-in_err-lay_body.ensures.1 in
    let two = run_joined s one gates c.args.disk.now c.lay_parameters.new.disk c.close_gates.new.disk c.in_ok-lay_parameters.ensures.runs c.in_ok-close_gates.ensures.runs in
    rw (p.1, p.2) (goes_on s (one ++ gates) (body bytes ++ opening) c.args.disk.now c.close_gates.new.disk c.lay_body.new.disk (Err c.in_err-lay_body.field-0.0) two
    (ends_there s (body bytes) opening c.close_gates.new.disk c.lay_body.new.disk c.in_err-lay_body.field-0.0 c.in_err-lay_body.ensures.runs))

pub returns-clause-runs : goal.returns-clause-runs
returns-clause-runs g c =
    let s = g.D.SectorDisk.state in
    let one = told (parameters_bytes c.args.parameters.now ++ replicate 504 0) in
    let bytes = c.args.body.now in
    let two = run_joined s one gates c.args.disk.now c.lay_parameters.new.disk c.close_gates.new.disk c.in_ok-lay_parameters.ensures.runs c.in_ok-close_gates.ensures.runs in
    let three = run_joined s (one ++ gates) (body bytes) c.args.disk.now c.close_gates.new.disk c.lay_body.new.disk two c.in_ok-lay_body.ensures.runs in
    goes_on s (one ++ (gates ++ body bytes)) opening c.args.disk.now c.lay_body.new.disk c.open_first_gate.new.disk c.open_first_gate.result three c.open_first_gate.ensures.runs

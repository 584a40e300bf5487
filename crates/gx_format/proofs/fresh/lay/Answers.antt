use Rattle.std.proofs.Common.{Err, ℕ, List, [], ◌∷◌, ◌++◌, replicate}
use Rattle.std.proofs.lemmas.Result.{err_from_is_err_and}
use Rattle.gx_disk.specs.declared.layout.TheConstants.{PAGES_AT, PAGE_SECTORS}
use Rattle.gx_page.specs.Edits.{blank}
use Rattle.gx_page.specs.Format.{image_of}
use Rattle.gx_glog.specs.declared.parameters.TheConstants.{PARAMETERS}
use Rattle.gx_glog.specs.declared.extent.TheConstants.{BODIES_A, BODY_SECTORS, GATES_A, GATES_B, PLACES, SELECTOR}
use Rattle.gx_glog.specs.declared.extent.Extent.TheVariants.{A}
use Rattle.gx_glog.specs.First.{closed_gates_bytes, first_body_bytes, open_gate_bytes, selector_bytes}
use Rattle.gx_glog.specs.Parameters.{parameters_bytes}
use Rattle.gx_format.specs.declared.fresh.TheConstants.{PAGE_2}
use Rattle.gx_format.specs.Calls.{Call, Write, Sync}
use Rattle.gx_format.proofs.Running.{goes_on, ends_there, run_joined}
use Rattle.gx_format.proofs.fresh.lay.Goals as goal

-- the calls of each part
abbrev told : List ℕ → List Call
told parameters = Write PARAMETERS 1 parameters ∷ Write SELECTOR 1 (selector_bytes A) ∷ []

abbrev gates : List Call
gates = Write GATES_A PLACES closed_gates_bytes ∷ Write GATES_B PLACES closed_gates_bytes ∷ []

abbrev pages : List ℕ → List Call
pages root = Write PAGES_AT PAGE_SECTORS root ∷ Write PAGE_2 PAGE_SECTORS (image_of (blank 0 2)) ∷ []

abbrev body : List Call
body = Write BODIES_A BODY_SECTORS first_body_bytes ∷ Sync ∷ []

abbrev opening : List Call
opening = Write GATES_A 1 open_gate_bytes ∷ Sync ∷ []

pub returns-in_err-close_gates-clause-runs : goal.returns-in_err-close_gates-clause-runs
returns-in_err-close_gates-clause-runs g c =
    let s = g.D.SectorDisk.state in
    let one = told (parameters_bytes c.args.parameters.now ++ replicate 504 0) in
    let root = image_of c.args.page.now in
    let p = err_from_is_err_and c.from_residual-in_err-close_gates.result c.from_residual-in_err-close_gates.ensures.1 in
    rw (p.1, p.2) (goes_on s one (gates ++ (pages root ++ (body ++ opening))) c.args.disk.now c.lay_parameters.new.disk c.close_gates.new.disk (Err c.in_err-close_gates.field-0.0) c.in_ok-lay_parameters.ensures.runs
    (ends_there s gates (pages root ++ (body ++ opening)) c.lay_parameters.new.disk c.close_gates.new.disk c.in_err-close_gates.field-0.0 c.in_err-close_gates.ensures.runs))

pub returns-in_err-lay_pages-clause-runs : goal.returns-in_err-lay_pages-clause-runs
returns-in_err-lay_pages-clause-runs g c =
    let s = g.D.SectorDisk.state in
    let one = told (parameters_bytes c.args.parameters.now ++ replicate 504 0) in
    let root = image_of c.args.page.now in
    let p = err_from_is_err_and c.from_residual-in_err-lay_pages.result c.from_residual-in_err-lay_pages.ensures.1 in
    let two = run_joined s one gates c.args.disk.now c.lay_parameters.new.disk c.close_gates.new.disk c.in_ok-lay_parameters.ensures.runs c.in_ok-close_gates.ensures.runs in
    rw (p.1, p.2) (goes_on s (one ++ gates) (pages root ++ (body ++ opening)) c.args.disk.now c.close_gates.new.disk c.lay_pages.new.disk (Err c.in_err-lay_pages.field-0.0) two
    (ends_there s (pages root) (body ++ opening) c.close_gates.new.disk c.lay_pages.new.disk c.in_err-lay_pages.field-0.0 c.in_err-lay_pages.ensures.runs))

pub returns-in_err-lay_body-clause-runs : goal.returns-in_err-lay_body-clause-runs
returns-in_err-lay_body-clause-runs g c =
    let s = g.D.SectorDisk.state in
    let one = told (parameters_bytes c.args.parameters.now ++ replicate 504 0) in
    let root = image_of c.args.page.now in
    let p = err_from_is_err_and c.from_residual-in_err-lay_body.result c.from_residual-in_err-lay_body.ensures.1 in
    let two = run_joined s one gates c.args.disk.now c.lay_parameters.new.disk c.close_gates.new.disk c.in_ok-lay_parameters.ensures.runs c.in_ok-close_gates.ensures.runs in
    let three = run_joined s (one ++ gates) (pages root) c.args.disk.now c.close_gates.new.disk c.lay_pages.new.disk two c.in_ok-lay_pages.ensures.runs in
    rw (p.1, p.2) (goes_on s (one ++ (gates ++ pages root)) (body ++ opening) c.args.disk.now c.lay_pages.new.disk c.lay_body.new.disk (Err c.in_err-lay_body.field-0.0) three
    (ends_there s body opening c.lay_pages.new.disk c.lay_body.new.disk c.in_err-lay_body.field-0.0 c.in_err-lay_body.ensures.runs))

pub returns-clause-runs : goal.returns-clause-runs
returns-clause-runs g c =
    let s = g.D.SectorDisk.state in
    let one = told (parameters_bytes c.args.parameters.now ++ replicate 504 0) in
    let root = image_of c.args.page.now in
    let two = run_joined s one gates c.args.disk.now c.lay_parameters.new.disk c.close_gates.new.disk c.in_ok-lay_parameters.ensures.runs c.in_ok-close_gates.ensures.runs in
    let three = run_joined s (one ++ gates) (pages root) c.args.disk.now c.close_gates.new.disk c.lay_pages.new.disk two c.in_ok-lay_pages.ensures.runs in
    let four = run_joined s (one ++ (gates ++ pages root)) body c.args.disk.now c.lay_pages.new.disk c.lay_body.new.disk three c.in_ok-lay_body.ensures.runs in
    goes_on s (one ++ (gates ++ (pages root ++ body))) opening c.args.disk.now c.lay_body.new.disk c.open_first_gate.new.disk c.open_first_gate.result four c.open_first_gate.ensures.runs

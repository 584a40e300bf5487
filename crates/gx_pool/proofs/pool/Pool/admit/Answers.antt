use Rattle.std.proofs.Common.{◌∙◌, ap, None}
use Rattle.gx_page.specs.Reading.{read_of}
use Rattle.gx_pool.specs.State.{place_of}
use Rattle.gx_pool.specs.Edits.{with_page}
use Rattle.gx_pool.proofs.Bringing.{vacated_alone, vacated_brings, vacated_missing, loaded_alone, loaded_brings, loaded_missing, loaded_absent, admitted, admitted_there, settled_alone, vacated_goes, vacated_others, loaded_goes, loaded_others, settled_goes, settled_others}
use Rattle.gx_pool.proofs.pool.Pool.admit.Goals as goal

pub returns-in_default-clause-brings : goal.returns-in_default-clause-brings
returns-in_default-clause-brings g c = λ d seen read.
    rw (c.in_default.ensures.fault.1, c.vacate.ensures.vacated) (vacated_brings _ d seen c.args.self.now.frames c.args.i c.vacate.ensures.sound c.requires.frame.0 c.requires.frame.1)

pub returns-then-not-is_right-clause-brings : goal.returns-then-not-is_right-clause-brings
returns-then-not-is_right-clause-brings g c = λ d seen read.
    rw (c.in-Ok.ensures.loaded.1, c.deref.ensures, c.vacate.ensures.vacated)
    (loaded_brings _ d seen c.args.self.now.frames c.args.i (read_of c.args.self.now.buffer.value) c.vacate.ensures.sound c.requires.frame.0 c.requires.frame.1)

pub settle-requires-clause-page : goal.settle-requires-clause-page
settle-requires-clause-page g c = (
  c.requires.page.0,
  ap (λ v. place_of v c.args.page) (c.in-Ok.ensures.loaded.1 ∙ ap (λ b. with_page c.vacate.new.self c.args.i (read_of b)) c.deref.ensures ∙ ap (λ v. with_page v c.args.i (read_of c.args.self.now.buffer.value)) c.vacate.ensures.vacated)
      ∙ (loaded_absent c.args.self.now.frames c.args.i c.args.page (read_of c.args.self.now.buffer.value) c.vacate.ensures.sound c.requires.frame.0 c.requires.page.1),
)

pub returns-clause-brings : goal.returns-clause-brings
returns-clause-brings g c = λ d seen read.
    admitted _ d seen c.args.self.now.buffer.value c.args.self.now.frames c.load.new.self c.settle.new.self c.args.i c.args.page c.vacate.ensures.sound c.requires.frame.0 c.requires.frame.1
    c.requires.page.0 c.requires.page.1 (c.in-Ok.ensures.loaded.1 ∙ ap (λ b. with_page c.vacate.new.self c.args.i (read_of b)) c.deref.ensures ∙ ap (λ v. with_page v c.args.i (read_of c.args.self.now.buffer.value)) c.vacate.ensures.vacated) c.settle.ensures c.if-not-is_right.ensures.yes.0 c.if-not-is_right.ensures.yes.1 (rw (← c.deref.ensures) c.in-Ok.ensures.loaded.0) read

pub returns-clause-admitted : goal.returns-clause-admitted
returns-clause-admitted g c =
    admitted_there c.args.self.now.frames c.load.new.self c.settle.new.self (read_of c.args.self.now.buffer.value) c.args.i c.args.page c.vacate.ensures.sound c.requires.frame.0 c.requires.page.0
    (c.in-Ok.ensures.loaded.1 ∙ ap (λ b. with_page c.vacate.new.self c.args.i (read_of b)) c.deref.ensures ∙ ap (λ v. with_page v c.args.i (read_of c.args.self.now.buffer.value)) c.vacate.ensures.vacated) c.settle.ensures

pub returns-in_default-clause-alone : goal.returns-in_default-clause-alone
returns-in_default-clause-alone g c = rw (c.in_default.ensures.fault.1, c.vacate.ensures.vacated) (vacated_alone c.args.self.now.frames c.args.i c.args.page c.vacate.ensures.sound c.requires.frame.0)

pub returns-in_default-clause-left : goal.returns-in_default-clause-left
returns-in_default-clause-left g c =
    rw (c.in_default.ensures.fault.1, c.vacate.ensures.vacated) (vacated_missing c.args.self.now.frames c.args.i c.args.page c.vacate.ensures.sound c.requires.frame.0 c.requires.page.1)

pub returns-then-not-is_right-clause-alone : goal.returns-then-not-is_right-clause-alone
returns-then-not-is_right-clause-alone g c =
    rw (c.in-Ok.ensures.loaded.1, c.deref.ensures, c.vacate.ensures.vacated)
    (loaded_alone c.args.self.now.frames c.args.i c.args.page (read_of c.args.self.now.buffer.value) c.vacate.ensures.sound c.requires.frame.0)

pub returns-then-not-is_right-clause-left : goal.returns-then-not-is_right-clause-left
returns-then-not-is_right-clause-left g c =
    rw (c.in-Ok.ensures.loaded.1, c.deref.ensures, c.vacate.ensures.vacated)
    (loaded_missing c.args.self.now.frames c.args.i c.args.page (read_of c.args.self.now.buffer.value) c.vacate.ensures.sound c.requires.frame.0 c.requires.page.1)

pub returns-clause-alone : goal.returns-clause-alone
returns-clause-alone g c =
    settled_alone c.args.self.now.frames c.load.new.self c.settle.new.self c.args.i c.args.page None (read_of c.args.self.now.buffer.value) c.vacate.ensures.sound c.requires.frame.0
    (c.in-Ok.ensures.loaded.1 ∙ ap (λ b. with_page c.vacate.new.self c.args.i (read_of b)) c.deref.ensures ∙ ap (λ v. with_page v c.args.i (read_of c.args.self.now.buffer.value)) c.vacate.ensures.vacated) c.settle.ensures

pub returns-in_default-clause-goes : goal.returns-in_default-clause-goes
returns-in_default-clause-goes g c = rw (c.in_default.ensures.fault.1, c.vacate.ensures.vacated) (vacated_goes c.args.self.now.frames c.args.i c.vacate.ensures.sound c.requires.frame.0)

pub returns-then-not-is_right-clause-goes : goal.returns-then-not-is_right-clause-goes
returns-then-not-is_right-clause-goes g c =
    rw (c.in-Ok.ensures.loaded.1, c.deref.ensures, c.vacate.ensures.vacated)
    (loaded_goes c.args.self.now.frames c.args.i (read_of c.args.self.now.buffer.value) c.vacate.ensures.sound c.requires.frame.0)

pub returns-clause-goes : goal.returns-clause-goes
returns-clause-goes g c =
    settled_goes c.args.self.now.frames c.load.new.self c.settle.new.self c.args.i c.args.page None (read_of c.args.self.now.buffer.value) c.vacate.ensures.sound c.requires.frame.0 c.requires.page.0
    (c.in-Ok.ensures.loaded.1 ∙ ap (λ b. with_page c.vacate.new.self c.args.i (read_of b)) c.deref.ensures ∙ ap (λ v. with_page v c.args.i (read_of c.args.self.now.buffer.value)) c.vacate.ensures.vacated) c.settle.ensures

pub returns-in_default-clause-others : goal.returns-in_default-clause-others
returns-in_default-clause-others g c = rw (c.in_default.ensures.fault.1, c.vacate.ensures.vacated) (vacated_others c.args.self.now.frames c.args.i c.args.page c.vacate.ensures.sound c.requires.frame.0)

pub returns-then-not-is_right-clause-others : goal.returns-then-not-is_right-clause-others
returns-then-not-is_right-clause-others g c =
    rw (c.in-Ok.ensures.loaded.1, c.deref.ensures, c.vacate.ensures.vacated)
    (loaded_others c.args.self.now.frames c.args.i c.args.page (read_of c.args.self.now.buffer.value) c.vacate.ensures.sound c.requires.frame.0)

pub returns-clause-others : goal.returns-clause-others
returns-clause-others g c =
    settled_others c.args.self.now.frames c.load.new.self c.settle.new.self c.args.i c.args.page None (read_of c.args.self.now.buffer.value) c.vacate.ensures.sound c.requires.frame.0
    (c.in-Ok.ensures.loaded.1 ∙ ap (λ b. with_page c.vacate.new.self c.args.i (read_of b)) c.deref.ensures ∙ ap (λ v. with_page v c.args.i (read_of c.args.self.now.buffer.value)) c.vacate.ensures.vacated) c.settle.ensures

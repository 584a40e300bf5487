use Rattle.gx_machine.specs.Keys.{keys}
use Rattle.gx_events.specs.declared.event.Event.{Event}
use Rattle.gx_shared.specs.Books.{IsHold, IsMade}
use Rattle.gx_shared.proofs.book.Made.{as_asked, as_moved}
use Rattle.gx_shared.proofs.book.Book.apply_for.Goals as goal

pub returns-in-Ask : goal.returns-in-Ask
returns-in-Ask g c = record {
  hold = λ granted.
      as_asked (λ (x : Event g.row.B.Denot). IsHold (keys g.B.Ord.cmp g.B.Shape.overlap g.B.Shape.inside) g.E.Events.sees c.args.self.now x c.ask.result c.ask.new.self) c.args.session.now.0.0 c.args.event _ _ c.requires c.in-Ask.is
      (c.ask.ensures.hold granted);
  made = as_asked (λ (x : Event g.row.B.Denot). IsMade g.E.Events.makes c.args.self.now x c.ask.result c.ask.new.self) c.args.session.now.0.0 c.args.event _ _ c.requires c.in-Ask.is c.ask.ensures.made;
  share = c.ask.ensures.share;
}

pub returns-in_default : goal.returns-in_default
returns-in_default g c = record {
  hold = λ granted. as_moved (λ (x : Event g.row.B.Denot). IsHold (keys g.B.Ord.cmp g.B.Shape.overlap g.B.Shape.inside) g.E.Events.sees c.args.self.now x c.go_on.result c.go_on.new.self) c.args.session.now.0.0 c.args.event c.requires c.in_default.not-Ask
      (c.go_on.ensures.hold granted);
  made = as_moved (λ (x : Event g.row.B.Denot). IsMade g.E.Events.makes c.args.self.now x c.go_on.result c.go_on.new.self) c.args.session.now.0.0 c.args.event c.requires c.in_default.not-Ask c.go_on.ensures.made;
  share = c.go_on.ensures.share;
}

use Rattle.std.proofs.Common.{◌∙◌}
use Rattle.gx_lives.proofs.migrated.Begun.{if_ok}
use Rattle.gx_lives.proofs.turns.migrate.Goals as goal

pub returns-clause-begins : goal.returns-clause-begins
returns-clause-begins g c = λ honest other.
    if_ok _ _ (λ told is. c.a_migration_begins_a_life.ensures c.args.old.now c.migrate.new.new told (c.migrate.ensures.device.1 ∙ other) is) c.migrate.result (c.migrate.ensures.migrated honest other)

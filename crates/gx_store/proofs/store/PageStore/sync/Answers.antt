use Rattle.gx_pool.proofs.Elsewhere.{rest_leaves}
use Rattle.gx_durable.proofs.Reading.{rests_safely}
use Rattle.gx_store.proofs.store.PageStore.sync.Goals as goal

pub returns-clause-up : goal.returns-clause-up
returns-clause-up g c = rw (← c.self.view_is) (λ l. rests_safely (g.M.Meaning.known l) g.M.Spelled.reading (g.D.SectorDisk.state c.self.inside.disk) _
    c.in_ok-sync.ensures.counts.sectors (λ honest. (c.in_ok-sync.ensures.syncs honest).rests) (λ honest. (c.in_ok-sync.ensures.syncs honest).time))

pub returns-in_err-sync-clause-up : goal.returns-in_err-sync-clause-up
returns-in_err-sync-clause-up g c = rw (← c.self.view_is) (λ l. rests_safely (g.M.Meaning.known l) g.M.Spelled.reading (g.D.SectorDisk.state c.self.inside.disk) _
    c.in_err-sync.ensures.counts.sectors (λ honest. (c.in_err-sync.ensures.syncs honest).rests) (λ honest. (c.in_err-sync.ensures.syncs honest).time))

pub returns-clause-pages : goal.returns-clause-pages
returns-clause-pages g c = rw (← c.self.view_is) (λ honest. rest_leaves (g.D.SectorDisk.state c.self.inside.disk) _ (c.in_ok-sync.ensures.syncs honest).rests)

pub returns-in_err-sync-clause-pages : goal.returns-in_err-sync-clause-pages
returns-in_err-sync-clause-pages g c = rw (← c.self.view_is) (λ honest. rest_leaves (g.D.SectorDisk.state c.self.inside.disk) _ (c.in_err-sync.ensures.syncs honest).rests)

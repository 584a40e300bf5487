use Rattle.gx_node.proofs.DescentFalls.{restart_falls, down_falls, widened_falls, swept_falls, split_falls, root_split_falls, others_split_falls, others_root_split_falls, left_most}
use Rattle.gx_node.proofs.tree_laws.descent_comes_to_an_end.Goals as goal

pub returns-clause-restarts : goal.returns-clause-restarts
returns-clause-restarts g c = λ r room claimed t legal parent item must. restart_falls r room claimed t legal parent item must

pub returns-clause-goes_down : goal.returns-clause-goes_down
returns-clause-goes_down g c = λ r room claimed t legal parent item x u space named. down_falls r room claimed t legal parent item x u space named

pub returns-clause-widens : goal.returns-clause-widens
returns-clause-widens g c = λ r room claimed law old new legal parent item x coming key step space named. widened_falls r room claimed law old new legal parent item x coming key step space named

pub returns-clause-sweeps : goal.returns-clause-sweeps
returns-clause-sweeps g c = λ r room claimed old new legal parent item step apart some. swept_falls r room claimed old new legal parent item step apart some

pub returns-clause-splits : goal.returns-clause-splits
returns-clause-splits g c = λ r room claimed law old new legal parent item n p sides left right step fits. split_falls r room claimed law old new legal parent item n p sides left right step fits

pub returns-clause-splits_root : goal.returns-clause-splits_root
returns-clause-splits_root g c = λ r room claimed law old new legal parent item sides left right step fits. root_split_falls r room claimed law old new legal parent item sides left right step fits

pub returns-clause-most : goal.returns-clause-most
returns-clause-most g c = λ r room claimed t legal parent item u fits small few. left_most r room claimed t legal parent item u fits small few

pub returns-clause-others_split : goal.returns-clause-others_split
returns-clause-others_split g c =
    λ r room claimed law old new legal parent item u n p sides left right step fits. others_split_falls r room claimed law old new legal parent item u n p sides left right step fits

pub returns-clause-others_split_root : goal.returns-clause-others_split_root
returns-clause-others_split_root g c =
    λ r room claimed law old new legal parent item u sides left right step fits. others_root_split_falls r room claimed law old new legal parent item u sides left right step fits

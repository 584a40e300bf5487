use Rattle.gx_class.proofs.box_penalty.LaneAreas.{products}
use Rattle.gx_class.proofs.box_penalty.areas.Goals as goal

pub returns : goal.returns
returns c w h v g w_fits h_fits v_fits g_fits sides = rw sides (products w h v g w_fits h_fits v_fits g_fits)

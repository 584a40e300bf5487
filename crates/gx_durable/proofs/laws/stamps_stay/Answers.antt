use Rattle.gx_durable.proofs.Reading.{later_stamps, bringing_clean, creating_later, change_later, record_says}
use Rattle.gx_durable.proofs.Stamping.{none_writable}
use Rattle.gx_durable.proofs.TurnRunning.{none_stamped}
use Rattle.gx_durable.proofs.laws.stamps_stay.Goals as goal

pub returns-clause-later : goal.returns-clause-later
returns-clause-later g c = later_stamps

pub returns-clause-clean : goal.returns-clause-clean
returns-clause-clean g c = none_stamped

pub returns-clause-writable : goal.returns-clause-writable
returns-clause-writable g c = none_writable _ _

pub returns-clause-brought : goal.returns-clause-brought
returns-clause-brought g c = bringing_clean

pub returns-clause-created : goal.returns-clause-created
returns-clause-created g c = creating_later

pub returns-clause-changed : goal.returns-clause-changed
returns-clause-changed g c = change_later

pub returns-clause-said : goal.returns-clause-said
returns-clause-said g c = record_says _ _

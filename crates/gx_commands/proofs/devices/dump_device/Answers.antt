use Rattle.std.proofs.Common.{inl, inr}
use Rattle.gx_commands.proofs.devices.Classed.{plane_read, space_read}
use Rattle.gx_commands.proofs.devices.dump_device.Goals as goal

pub returns-in-Ok-Plane : goal.returns-in-Ok-Plane
returns-in-Ok-Plane g c = inl (record { middle = c.kind_of.new.disk; read = plane_read _ _ _ c.in-Ok-Plane.field-0 c.in-Ok-Plane.field-0-is c.in-Ok-Plane.ensures; follows = c.dump_over.ensures })

pub returns-in-Ok-Space : goal.returns-in-Ok-Space
returns-in-Ok-Space g c = inr (inl (record { middle = c.kind_of.new.disk; read = space_read _ _ _ c.in-Ok-Space.field-0 c.in-Ok-Space.field-0-is c.in-Ok-Space.ensures; follows = c.dump_over-in-Ok-Space.ensures }))

pub returns-in-Err : goal.returns-in-Err
returns-in-Err g c = inr (inr (record { why = c.in-Err.why; finds = c.in-Err.ensures; told = c.refuse.ensures }))

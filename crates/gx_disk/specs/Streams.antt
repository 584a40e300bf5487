-- The descriptor of a device's file.
use Rattle.std.specs.Prelude.{pos, ◌<ℤ◌}
use Rattle.std.specs.Fd.{file_raw_fd}
use Rattle.std.specs.declared.fs.File.{File}

-- it is none of the three that standard streams have
abbrev pub IsNoStream : File → Type 0
IsNoStream file = pos 2 <ℤ file_raw_fd file

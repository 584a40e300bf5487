-- What each fault prints.
use Rattle.std.specs.Prelude.{ℕ, List, codes}
use Rattle.gx_page.specs.declared.fault.PageFault.{PageFault}
use Rattle.gx_page.specs.declared.fault.PageFault.TheVariants.{Size, Reserved, Directory, Free, Memory}

abbrev pub text_of : PageFault → List ℕ
text_of Size = codes "not 4096 bytes"
text_of Reserved = codes "a reserved byte is not zero"
text_of Directory = codes "the directory is none"
text_of Free = codes "a free byte is not zero"
text_of Memory = codes "no memory for a page"

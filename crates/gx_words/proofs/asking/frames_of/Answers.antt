use Rattle.gx_words.proofs.asking.frames_of.Goals as goal

pub returns : goal.returns
returns c = c.number.ensures 16 4096 c.requires

use Rattle.litrs.proofs.byte.ByteLit.parse_with_front.Goals as goal

pub cut_with_front-requires : goal.cut_with_front-requires
cut_with_front-requires g c = rw (← c.as_str.ensures) at c.requires

use Rattle.std.proofs.lemmas.List.Elements.{same_from_all_zip}
use Rattle.part.proofs.Blank.{all_blank}
use Rattle.part.proofs.files.Files.new.Goals as goal

pub returns : goal.returns
returns c = all_blank _ (c.in_ok-from_elem.ensures.items_if_clones_equal (λ y h. same_from_all_zip _ _ _ h.whole (λ x z e. e)))

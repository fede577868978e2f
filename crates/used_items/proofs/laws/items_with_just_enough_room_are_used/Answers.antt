use Rattle.used_items.proofs.Using.{used}
use Rattle.used_items.proofs.laws.items_with_just_enough_room_are_used.Goals as goal

pub returns : goal.returns
returns c = λ problem room item lawful ok some chosen cover. used problem room chosen lawful ok cover item some

-- What is chosen in a kernel, whichever it is.
use Rattle.choices.specs.Choices.{Choices}
use Rattle.brancher.specs.declared.kernel.Kernel.{Kernel}
use Rattle.brancher.specs.declared.kernel.Kernel.TheVariants.{Links, Sets}

-- the problem, the options chosen in it, and the item by which each was chosen
abbrev pub choices_in : Kernel → Choices
choices_in (Links choices) = choices
choices_in (Sets choices) = choices

-- `slots::show::show_plain`: the colour of each pixel in two, four and sixteen colours.
use Rattle.slots.specs.Shows.{two_shown, four_shown, sixteen_shown}
use Rattle.slots.proofs.show.show_plain.Given as goal

abbrev pub ghost-show_pixels : goal.ghost-show_pixels
ghost-show_pixels a = two_shown a.shown.0 a.shown.1 a.shown.2

abbrev pub ghost-show_pixels-2 : goal.ghost-show_pixels-2
ghost-show_pixels-2 a = four_shown a.shown.0.now a.shown.1

abbrev pub ghost-show_pixels-3 : goal.ghost-show_pixels-3
ghost-show_pixels-3 a = sixteen_shown a.shown.0.now a.shown.1

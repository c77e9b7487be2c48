-- The numbers given back, and their places.
use Rattle.std.specs.Prelude.{ℕ}

-- the numbers of an entry point itself: accepted, built, read or written; refused before a walk or a build begins; 5, which no pass says: it
-- is the allowance's; and 7, for a slice lent that is too short
abbrev pub accepted : ℕ
accepted = 0

abbrev pub too_few_tokens : ℕ
too_few_tokens = 1

abbrev pub no_pass : ℕ
no_pass = 5

abbrev pub no_room : ℕ
no_room = 7

abbrev pub bad_tables : ℕ
bad_tables = 8

abbrev pub too_many_tokens : ℕ
too_many_tokens = 9

abbrev pub bad_rules : ℕ
bad_rules = 10

-- why a pass is refused
pub data Why : Type 0 where
  unparseable : ℕ → Why
  too_short : ℕ → Why
  misfit : Why
  no_frame : Why
  no_entry : Why

unfoldable pub number : Why → ℕ
number (unparseable p) = 2
number (too_short p) = 3
number misfit = 4
number no_frame = 6
number no_entry = no_room

unfoldable pub place : Why → ℕ
place (unparseable p) = p
place (too_short p) = p
place misfit = 0
place no_frame = 0
place no_entry = 0

-- why a build is refused
pub data Fault : Type 0 where
  collides : Fault
  no_node : Fault
  no_edge : Fault
  sixth_reduce : Fault
  far_offset : Fault
  bad_copy : Fault
  many_rows : Fault
  no_clone : Fault

unfoldable pub fault_number : Fault → ℕ
fault_number collides = 11
fault_number no_node = 12
fault_number no_edge = 13
fault_number sixth_reduce = 14
fault_number far_offset = 15
fault_number bad_copy = 16
fault_number many_rows = 17
fault_number no_clone = 6

-- what is wrong with a package
-- a record's length is cut short, under 2, or runs past the file
abbrev pub cut_short : ℕ
cut_short = 20

abbrev pub unknown_kind : ℕ
unknown_kind = 21

-- a body, or counted words, of the wrong size
abbrev pub wrong_size : ℕ
wrong_size = 22

-- records in a wrong order, none left before the end, or a byte after it
abbrev pub wrong_order : ℕ
wrong_order = 23

unfoldable pub numbering : Unit {0}
unfolding number place fault_number
numbering = tt

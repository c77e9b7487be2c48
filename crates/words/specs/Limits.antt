-- The limits of paper 01, each once.
use Rattle.std.specs.Prelude.{ℕ}

-- symbols and typecodes are 1 to this
abbrev pub most_symbol : ℕ
most_symbol = 65535

-- the items of a body
abbrev pub most_items : ℕ
most_items = 32

abbrev pub most_rules : ℕ
most_rules = 2048

abbrev pub most_nodes : ℕ
most_nodes = 8192

abbrev pub most_edges : ℕ
most_edges = 16384

-- the words of an edge
abbrev pub row_width : ℕ
row_width = 16

abbrev pub most_reduces : ℕ
most_reduces = 5

abbrev pub most_offset : ℕ
most_offset = 255

-- the tokens of a statement, its typecode among them
abbrev pub most_tokens : ℕ
most_tokens = 32769

-- the rows that `clone_branches` may take up in one garden path
abbrev pub most_taken : ℕ
most_taken = 16384

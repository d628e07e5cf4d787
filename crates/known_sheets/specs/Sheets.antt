-- The known sheets (01, "Known sheets"): cases 1 to 12, in two rows where 01 names two inputs, and the two sheets that 01 names after them. K's report
-- and the numbers quoted are 01's. The lines and words that 01 does not print were worked out from the rules apart from the program, those of cases 3
-- and 4 and of `eight` by hand. compare/tests/known_sheets.rs has both implementations agree on cases 1 to 12.
-- Assumes nothing.
use Rattle.std.specs.Prelude.{List, [], ◌∷◌, ◌++◌, ℕ, Ok, Err}
use Rattle.refusals.specs.declared.Refusal.TheVariants.{ShortResult, BeyondLimits, BadStamps, CrowdedComponent, BadGeneSpecies}
use Rattle.sheet_rows.specs.Rows.{ln, Row}

-- the word that stands for no history
abbrev pub ∞ : ℕ
∞ = 4294967295

-- the network lines of sheet K
abbrev pub network_k : List ℕ
network_k = ln "     1     0     0     0     0"
    ++ ln "     2     1     0     1     0"
    ++ ln "     3     2     4     2     0"
    ++ ln "     4     1     0     2     0"
    ++ ln "     5     2     0     9     1"
    ++ ln "     6     3     0     9     2"
    ++ ln "     7     4     0     9     3"

-- the gene lines of sheet K
abbrev pub genes_k : List ℕ
genes_k = ln "     1     0     0     0     0"
    ++ ln "     2     1     1     0     0"
    ++ ln "     3     1     0     0     0"
    ++ ln "     4     3     2     0     0"
    ++ ln "     5     3     3     0     0"

-- those of case 4
abbrev pub genes322 : List ℕ
genes322 = ln "     1     0     0     0     0"
    ++ ln "     2     1     0     0     0"
    ++ ln "     3     2     3     0     0"
    ++ ln "     4     2     2     0     0"
    ++ ln "     5     1     2     0     0"

-- 1. "K: as above"
abbrev pub case1 : Row
case1 = record {
  sheet = ln "     7     5     2     3     1" ++ network_k ++ genes_k;
  result = 5952;
  scratch = 16129;
  answer = Ok 248;
  report = ln "     3     0     1     0     2"
      ++ ln "     4     7     5     1     1"
      ++ ln "     3     4     1     1     1"
      ++ ln "     1     1     1     0     0"
      ++ ln "     2     5     0     0     0"
      ++ ln "     3     4     3     0     0"
      ++ ln "     4     6     0     1     0"
      ++ ln "     5     7     0     0     0";
  words = 4 ∷ ∞ ∷ ∞ ∷ ∞ ∷ ∞ ∷ ∞ ∷ ∞
      ∷ 2 ∷ 1 ∷ ∞ ∷ ∞ ∷ 0 ∷ ∞ ∷ ∞
      ∷ 1 ∷ ∞ ∷ ∞ ∷ 3 ∷ ∞ ∷ ∞ ∷ ∞
      ∷ 2 ∷ 1 ∷ 0 ∷ 4 ∷ ∞ ∷ 0 ∷ ∞
      ∷ 1 ∷ ∞ ∷ ∞ ∷ 0 ∷ ∞ ∷ ∞ ∷ 0 ∷ [];
}

-- 2. "K, T = 4: cost 4, secondary; whole network 5"
abbrev pub case2 : Row
case2 = record {
  sheet = ln "     7     5     2     4     1" ++ network_k ++ genes_k;
  result = 5952;
  scratch = 16129;
  answer = Ok 248;
  report = ln "     4     0     1     0     2"
      ++ ln "     5     7     5     1     1"
      ++ ln "     3     4     1     1     1"
      ++ ln "     1     1     1     0     0"
      ++ ln "     2     5     0     0     0"
      ++ ln "     3     4     3     0     0"
      ++ ln "     4     6     0     1     0"
      ++ ln "     5     7     0     0     0";
  words = 5 ∷ ∞ ∷ ∞ ∷ ∞ ∷ ∞ ∷ ∞ ∷ ∞
      ∷ 2 ∷ 1 ∷ ∞ ∷ ∞ ∷ 0 ∷ ∞ ∷ ∞
      ∷ 1 ∷ ∞ ∷ ∞ ∷ 4 ∷ ∞ ∷ ∞ ∷ ∞
      ∷ 2 ∷ 1 ∷ 0 ∷ 5 ∷ ∞ ∷ 0 ∷ ∞
      ∷ 1 ∷ ∞ ∷ ∞ ∷ 0 ∷ ∞ ∷ ∞ ∷ 0 ∷ [];
}

-- 3. "K, T = 5: tie at 5, principal; 1 duplication, 3 losses; whole network 5"
abbrev pub case3 : Row
case3 = record {
  sheet = ln "     7     5     2     5     1" ++ network_k ++ genes_k;
  result = 5952;
  scratch = 16129;
  answer = Ok 248;
  report = ln "     5     1     0     3     2"
      ++ ln "     5     7     5     1     1"
      ++ ln "     3     2     0     1     1"
      ++ ln "     1     1     2     0     0"
      ++ ln "     2     5     0     0     2"
      ++ ln "     3     1     1     0     0"
      ++ ln "     4     6     0     0     1"
      ++ ln "     5     7     0     0     0";
  words = 5 ∷ ∞ ∷ ∞ ∷ ∞ ∷ ∞ ∷ ∞ ∷ ∞
      ∷ 2 ∷ 1 ∷ ∞ ∷ ∞ ∷ 0 ∷ ∞ ∷ ∞
      ∷ 1 ∷ ∞ ∷ ∞ ∷ 5 ∷ ∞ ∷ ∞ ∷ ∞
      ∷ 2 ∷ 1 ∷ 0 ∷ 6 ∷ ∞ ∷ 0 ∷ ∞
      ∷ 1 ∷ ∞ ∷ ∞ ∷ 0 ∷ ∞ ∷ ∞ ∷ 0 ∷ [];
}

-- 4. "K with genes ((3,2),2) written by species, numbered from the left, each pair before its members:
-- 5, principal, 1 duplication, 3 losses; whole network 4"
abbrev pub case4 : Row
case4 = record {
  sheet = ln "     7     5     2     3     1" ++ network_k ++ genes322;
  result = 5952;
  scratch = 16129;
  answer = Ok 248;
  report = ln "     5     1     0     3     2"
      ++ ln "     4     7     5     1     1"
      ++ ln "     3     2     0     1     1"
      ++ ln "     1     1     2     0     0"
      ++ ln "     2     1     1     0     0"
      ++ ln "     3     7     0     0     0"
      ++ ln "     4     6     0     0     1"
      ++ ln "     5     6     0     0     2";
  words = 4 ∷ ∞ ∷ ∞ ∷ 6 ∷ ∞ ∷ ∞ ∷ ∞
      ∷ 1 ∷ ∞ ∷ ∞ ∷ 3 ∷ ∞ ∷ ∞ ∷ ∞
      ∷ 1 ∷ ∞ ∷ ∞ ∷ 0 ∷ ∞ ∷ ∞ ∷ 0
      ∷ 2 ∷ 1 ∷ 0 ∷ 4 ∷ ∞ ∷ 0 ∷ ∞
      ∷ 2 ∷ 1 ∷ 0 ∷ 4 ∷ ∞ ∷ 0 ∷ ∞ ∷ [];
}

-- 5. "Case 4 with T = 2: still 5; whole network 3"
abbrev pub case5 : Row
case5 = record {
  sheet = ln "     7     5     2     2     1" ++ network_k ++ genes322;
  result = 5952;
  scratch = 16129;
  answer = Ok 248;
  report = ln "     5     1     0     3     2"
      ++ ln "     3     7     5     1     1"
      ++ ln "     3     2     0     1     1"
      ++ ln "     1     1     2     0     0"
      ++ ln "     2     1     1     0     0"
      ++ ln "     3     7     0     0     0"
      ++ ln "     4     6     0     0     1"
      ++ ln "     5     6     0     0     2";
  words = 3 ∷ ∞ ∷ ∞ ∷ 4 ∷ ∞ ∷ ∞ ∷ ∞
      ∷ 1 ∷ ∞ ∷ ∞ ∷ 2 ∷ ∞ ∷ ∞ ∷ ∞
      ∷ 1 ∷ ∞ ∷ ∞ ∷ 0 ∷ ∞ ∷ ∞ ∷ 0
      ∷ 2 ∷ 1 ∷ 0 ∷ 3 ∷ ∞ ∷ 0 ∷ ∞
      ∷ 2 ∷ 1 ∷ 0 ∷ 3 ∷ ∞ ∷ 0 ∷ ∞ ∷ [];
}

-- 6. "K with one gene of species 2: all costs 0, principal"
abbrev pub case6 : Row
case6 = record {
  sheet = ln "     7     1     2     3     1" ++ network_k ++ ln "     1     0     2     0     0";
  result = 5952;
  scratch = 16129;
  answer = Ok 124;
  report = ln "     0     0     0     0     2"
      ++ ln "     0     7     1     1     1"
      ++ ln "     3     2     0     1     1"
      ++ ln "     1     6     0     0     0";
  words = 2 ∷ 1 ∷ 0 ∷ 4 ∷ ∞ ∷ 0 ∷ ∞ ∷ [];
}

-- 7. "n = m = 1, same species: cost 0, trials 0"
abbrev pub case7 : Row
case7 = record {
  sheet = ln "     1     1     2     3     1"
      ++ ln "     1     0     0     0     1"
      ++ ln "     1     0     1     0     0";
  result = 5952;
  scratch = 16129;
  answer = Ok 93;
  report = ln "     0     0     0     0     0"
      ++ ln "     0     1     1     0     0"
      ++ ln "     1     1     0     0     0";
  words = 0 ∷ [];
}

-- 8. "n = 1, three genes, D = 2: cost 2"
abbrev pub case8 : Row
case8 = record {
  sheet = ln "     1     3     2     3     1"
      ++ ln "     1     0     0     0     1"
      ++ ln "     1     0     0     0     0"
      ++ ln "     2     1     1     0     0"
      ++ ln "     3     1     1     0     0";
  result = 5952;
  scratch = 16129;
  answer = Ok 155;
  report = ln "     2     1     0     0     0"
      ++ ln "     2     1     3     0     0"
      ++ ln "     1     1     2     0     0"
      ++ ln "     2     1     0     0     0"
      ++ ln "     3     1     0     0     0";
  words = 2 ∷ 0 ∷ 0 ∷ [];
}

-- 9. "K, node 4 stamped 1: 7"
abbrev pub case9 : Row
case9 = record {
  sheet = ln "     7     5     2     3     1"
      ++ ln "     1     0     0     0     0"
      ++ ln "     2     1     0     1     0"
      ++ ln "     3     2     4     2     0"
      ++ ln "     4     1     0     1     0"
      ++ ln "     5     2     0     9     1"
      ++ ln "     6     3     0     9     2"
      ++ ln "     7     4     0     9     3"
      ++ genes_k;
  result = 5952;
  scratch = 16129;
  answer = Err BadStamps;
  report = [];
  words = [];
}

-- 10. "K, gene 4 of species 4: 13"
abbrev pub case10 : Row
case10 = record {
  sheet = ln "     7     5     2     3     1" ++ network_k
      ++ ln "     1     0     0     0     0"
      ++ ln "     2     1     1     0     0"
      ++ ln "     3     1     0     0     0"
      ++ ln "     4     3     4     0     0"
      ++ ln "     5     3     3     0     0";
  result = 5952;
  scratch = 16129;
  answer = Err BadGeneSpecies;
  report = [];
  words = [];
}

-- 11. "K with D = 99 prints as K .."
abbrev pub case11 : Row
case11 = record {
  sheet = ln "     7     5    99     3     1" ++ network_k ++ genes_k;
  result = 5952;
  scratch = 16129;
  answer = Ok 248;
  report = ln "     3     0     1     0     2"
      ++ ln "     4     7     5     1     1"
      ++ ln "     3     4     1     1     1"
      ++ ln "     1     1     1     0     0"
      ++ ln "     2     5     0     0     0"
      ++ ln "     3     4     3     0     0"
      ++ ln "     4     6     0     1     0"
      ++ ln "     5     7     0     0     0";
  words = 4 ∷ ∞ ∷ ∞ ∷ ∞ ∷ ∞ ∷ ∞ ∷ ∞
      ∷ 2 ∷ 1 ∷ ∞ ∷ ∞ ∷ 0 ∷ ∞ ∷ ∞
      ∷ 1 ∷ ∞ ∷ ∞ ∷ 3 ∷ ∞ ∷ ∞ ∷ ∞
      ∷ 2 ∷ 1 ∷ 0 ∷ 4 ∷ ∞ ∷ 0 ∷ ∞
      ∷ 1 ∷ ∞ ∷ ∞ ∷ 0 ∷ ∞ ∷ ∞ ∷ 0 ∷ [];
}

-- ".. D = 100 gives 4"
abbrev pub case11_refused : Row
case11_refused = record {
  sheet = ln "     7     5   100     3     1" ++ network_k ++ genes_k;
  result = 5952;
  scratch = 16129;
  answer = Err BeyondLimits;
  report = [];
  words = [];
}

-- 12. "Result of 5,952 bytes is taken .."
abbrev pub case12 : Row
case12 = record {
  sheet = ln "     7     5     2     3     1" ++ network_k ++ genes_k;
  result = 5952;
  scratch = 16129;
  answer = Ok 248;
  report = ln "     3     0     1     0     2"
      ++ ln "     4     7     5     1     1"
      ++ ln "     3     4     1     1     1"
      ++ ln "     1     1     1     0     0"
      ++ ln "     2     5     0     0     0"
      ++ ln "     3     4     3     0     0"
      ++ ln "     4     6     0     1     0"
      ++ ln "     5     7     0     0     0";
  words = 4 ∷ ∞ ∷ ∞ ∷ ∞ ∷ ∞ ∷ ∞ ∷ ∞
      ∷ 2 ∷ 1 ∷ ∞ ∷ ∞ ∷ 0 ∷ ∞ ∷ ∞
      ∷ 1 ∷ ∞ ∷ ∞ ∷ 3 ∷ ∞ ∷ ∞ ∷ ∞
      ∷ 2 ∷ 1 ∷ 0 ∷ 4 ∷ ∞ ∷ 0 ∷ ∞
      ∷ 1 ∷ ∞ ∷ ∞ ∷ 0 ∷ ∞ ∷ ∞ ∷ 0 ∷ [];
}

-- ".. 5,951 gives 2"
abbrev pub case12_refused : Row
case12_refused = record {
  sheet = ln "     7     5     2     3     1" ++ network_k ++ genes_k;
  result = 5951;
  scratch = 16129;
  answer = Err ShortResult;
  report = [];
  words = [];
}

-- "A component of 8 reticulations is scored ..": it is searched in 256 trials
abbrev pub eight : Row
eight = record {
  sheet = ln "    33     1     2     3     1"
      ++ ln "     1     0     0     0     0"
      ++ ln "     2     1     0     2     0"
      ++ ln "     3     1     2     2     0"
      ++ ln "     4     3     0     3     0"
      ++ ln "     5     4     0    99     1"
      ++ ln "     6     2     0     4     0"
      ++ ln "     7     4     6     4     0"
      ++ ln "     8     7     0     5     0"
      ++ ln "     9     8     0    99     2"
      ++ ln "    10     6     0     6     0"
      ++ ln "    11     8    10     6     0"
      ++ ln "    12    11     0     7     0"
      ++ ln "    13    12     0    99     3"
      ++ ln "    14    10     0     8     0"
      ++ ln "    15    12    14     8     0"
      ++ ln "    16    15     0     9     0"
      ++ ln "    17    16     0    99     4"
      ++ ln "    18    14     0    10     0"
      ++ ln "    19    16    18    10     0"
      ++ ln "    20    19     0    11     0"
      ++ ln "    21    20     0    99     5"
      ++ ln "    22    18     0    12     0"
      ++ ln "    23    20    22    12     0"
      ++ ln "    24    23     0    13     0"
      ++ ln "    25    24     0    99     6"
      ++ ln "    26    22     0    14     0"
      ++ ln "    27    24    26    14     0"
      ++ ln "    28    27     0    15     0"
      ++ ln "    29    28     0    99     7"
      ++ ln "    30    26     0    16     0"
      ++ ln "    31    28    30    16     0"
      ++ ln "    32    31     0    99     8"
      ++ ln "    33    30     0    99     9"
      ++ ln "     1     0     1     0     0";
  result = 5952;
  scratch = 16129;
  answer = Ok 341;
  report = ln "     0     0     0     0   256"
      ++ ln "     0    33     1     8     1"
      ++ ln "     3     1     0     1     8"
      ++ ln "     7     4     0     1     8"
      ++ ln "    11     8     0     1     8"
      ++ ln "    15    12     0     1     8"
      ++ ln "    19    16     0     1     8"
      ++ ln "    23    20     0     1     8"
      ++ ln "    27    24     0     1     8"
      ++ ln "    31    28     0     1     8"
      ++ ln "     1     5     0     0     0";
  words = 2 ∷ 5 ∷ 1 ∷ 1 ∷ 0
      ∷ ∞ ∷ ∞ ∷ ∞ ∷ ∞ ∷ ∞ ∷ ∞ ∷ ∞ ∷ ∞ ∷ ∞ ∷ ∞ ∷ ∞ ∷ ∞ ∷ ∞ ∷ ∞ ∷ ∞ ∷ ∞ ∷ ∞ ∷ ∞ ∷ ∞ ∷ ∞ ∷ ∞ ∷ ∞ ∷ ∞ ∷ ∞ ∷ ∞ ∷ ∞ ∷ ∞ ∷ ∞ ∷ [];
}

-- ".. one of 9 gives 11"
abbrev pub nine : Row
nine = record {
  sheet = ln "    37     1     2     3     1"
      ++ ln "     1     0     0     0     0"
      ++ ln "     2     1     0     2     0"
      ++ ln "     3     1     2     2     0"
      ++ ln "     4     3     0     3     0"
      ++ ln "     5     4     0    99     1"
      ++ ln "     6     2     0     4     0"
      ++ ln "     7     4     6     4     0"
      ++ ln "     8     7     0     5     0"
      ++ ln "     9     8     0    99     2"
      ++ ln "    10     6     0     6     0"
      ++ ln "    11     8    10     6     0"
      ++ ln "    12    11     0     7     0"
      ++ ln "    13    12     0    99     3"
      ++ ln "    14    10     0     8     0"
      ++ ln "    15    12    14     8     0"
      ++ ln "    16    15     0     9     0"
      ++ ln "    17    16     0    99     4"
      ++ ln "    18    14     0    10     0"
      ++ ln "    19    16    18    10     0"
      ++ ln "    20    19     0    11     0"
      ++ ln "    21    20     0    99     5"
      ++ ln "    22    18     0    12     0"
      ++ ln "    23    20    22    12     0"
      ++ ln "    24    23     0    13     0"
      ++ ln "    25    24     0    99     6"
      ++ ln "    26    22     0    14     0"
      ++ ln "    27    24    26    14     0"
      ++ ln "    28    27     0    15     0"
      ++ ln "    29    28     0    99     7"
      ++ ln "    30    26     0    16     0"
      ++ ln "    31    28    30    16     0"
      ++ ln "    32    31     0    17     0"
      ++ ln "    33    32     0    99     8"
      ++ ln "    34    30     0    18     0"
      ++ ln "    35    32    34    18     0"
      ++ ln "    36    35     0    99     9"
      ++ ln "    37    34     0    99    10"
      ++ ln "     1     0     1     0     0";
  result = 5952;
  scratch = 16129;
  answer = Err CrowdedComponent;
  report = [];
  words = [];
}

-- the table
abbrev pub known_sheets : List Row
known_sheets = case1 ∷ case2 ∷ case3 ∷ case4 ∷ case5 ∷ case6 ∷ case7 ∷ case8 ∷ case9 ∷ case10 ∷ case11 ∷ case11_refused ∷ case12 ∷ case12_refused ∷ eight ∷ nine ∷ []

use Rattle.std.proofs.Common.{◌≡◌, true, not, length, vec_len}
use Rattle.std.specs.List.{list_all}
use Rattle.choice_search.specs.Search.{is_open}
use Rattle.choice_search.proofs.search.filled.Given as goal

abbrev pub invariant-loop-i : goal.invariant-loop-i
invariant-loop-i l = record {
  long : length l.all.items ≡ l.i;
  taken : list_all (λ side. not (is_open side)) l.all.items ≡ true;
}

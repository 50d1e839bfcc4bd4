-- The fields that are left have room, and i and what is found first in them come to what is found first of all.
use Rattle.std.proofs.Common.{◌≡◌, ◌+◌, ◌≤◌, drop}
use Rattle.record.specs.Layout.{total, first_broken}
use Rattle.record.proofs.layout.first_broken.Given as goal

abbrev pub invariant-loop-i : goal.invariant-loop-i
invariant-loop-i l = record {
  room : l.at + total (drop l.i l.fields) ≤ 108;
  rest : l.i + first_broken (drop l.i l.fields) (drop l.at l.s) ≡ first_broken l.fields l.s;
}

-- Which faults are not the writer's, and which not the reader's.
use Rattle.rhai_lines.specs.declared.lines.LinesFault.{LinesFault}
use Rattle.rhai_lines.specs.declared.lines.LinesFault.TheVariants.{Read, Write, Memory}

abbrev pub IsNoWriteFault : LinesFault → Type 0
IsNoWriteFault (Read e) = Unit {0}
IsNoWriteFault (Write e) = ⊥
IsNoWriteFault Memory = Unit {0}

abbrev pub IsReadFault : LinesFault → Type 0
IsReadFault (Read e) = Unit {0}
IsReadFault (Write e) = ⊥
IsReadFault Memory = ⊥

abbrev pub IsNoReadFault : LinesFault → Type 0
IsNoReadFault (Read e) = ⊥
IsNoReadFault (Write e) = Unit {0}
IsNoReadFault Memory = Unit {0}

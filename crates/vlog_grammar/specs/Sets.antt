-- What each kind can begin with, what can stand behind it, and how far its cheapest tree goes. The tests of the table hold
-- these against the productions.
use Rattle.std.specs.Prelude.{ℕ, Bool, true, false, List, [], ◌∷◌, ◌++◌}
use Rattle.vlog_grammar.specs.declared.class.Class.{Class}
use Rattle.vlog_grammar.specs.declared.class.Class.TheVariants as c
use Rattle.vlog_grammar.specs.declared.rule.Kind.{Kind}
use Rattle.vlog_grammar.specs.declared.rule.Kind.TheVariants as k
use Rattle.vlog_grammar.specs.declared.rule.Rule.{Rule}
use Rattle.vlog_grammar.specs.declared.rule.Rule.TheVariants as r

-- For proofs alone.

abbrev expression_ends : List Class
expression_ends = c.Semicolon ∷ c.CloseParen ∷ c.Comma ∷ c.Colon ∷ c.CloseBracket ∷ c.OpenBrace ∷ c.CloseBrace ∷ c.PlusColon ∷ []

abbrev logical_or_ends : List Class
logical_or_ends = c.LogicalAnd ∷ c.LogicalOr ∷ c.Question ∷ expression_ends

abbrev bitwise_or_ends : List Class
bitwise_or_ends = c.And ∷ c.Xor ∷ c.Xnor ∷ c.Bar ∷ logical_or_ends

abbrev comparisons_or_ends : List Class
comparisons_or_ends = c.LessEqual ∷ c.Less ∷ c.Greater ∷ c.GreaterEqual ∷ c.Equal ∷ c.Unequal ∷ c.CaseEqual ∷ c.CaseUnequal ∷ bitwise_or_ends

abbrev operators_or_ends : List Class
operators_or_ends = c.Star ∷ c.Power ∷ c.Slash ∷ c.Percent ∷ c.Plus ∷ c.Minus ∷ c.ShiftLeft ∷ c.ShiftRight ∷ c.ShiftLeftSigned ∷ c.ShiftRightSigned ∷ comparisons_or_ends

abbrev operand_begins : List Class
operand_begins = c.Name ∷ c.SystemVerilog ∷ c.Number ∷ c.System ∷ c.UnaryFunction ∷ c.OpenParen ∷ c.OpenBrace ∷ c.Plus ∷ c.Minus ∷ c.And ∷ c.Xor ∷ c.Xnor ∷ c.Bar ∷ c.Not ∷ c.Tilde ∷ c.Nand ∷ c.Nor ∷ []

abbrev statement_begins : List Class
statement_begins = c.Name ∷ c.SystemVerilog ∷ c.System ∷ c.UnaryFunction ∷ c.Semicolon ∷ c.Hash ∷ c.For ∷ c.If ∷ c.Case ∷ c.Begin ∷ c.While ∷ c.Repeat ∷ c.Forever ∷ c.At ∷ c.CaseZ ∷ c.CaseX ∷ c.OpenBrace ∷ []

abbrev item_begins : List Class
item_begins = c.Name ∷ c.SystemVerilog ∷ c.Primitive ∷ c.Or ∷ c.Reg ∷ c.Integer ∷ c.Wire ∷ c.Genvar ∷ c.Localparam ∷ c.Assign ∷ c.Always ∷ c.Initial ∷ c.For ∷ c.If ∷ c.Case ∷ []

-- the classes of the first token of a kind
unfoldable pub firsts : Kind → List Class
firsts k.SourceText = c.SystemVerilog ∷ c.Module ∷ c.Primitive ∷ c.Or ∷ []
firsts k.Identifier = c.Name ∷ c.SystemVerilog ∷ []
firsts k.Attributes = c.OpenParen ∷ []
firsts k.AttributeSpecs = c.AttributeEnd ∷ c.AttributeText ∷ []
firsts k.ParameterPorts = c.Hash ∷ []
firsts k.MoreParameterPorts = c.Comma ∷ []
firsts k.ParameterPort = c.Name ∷ c.SystemVerilog ∷ c.Parameter ∷ []
firsts k.PortList = c.OpenParen ∷ []
firsts k.Ports = c.Name ∷ c.SystemVerilog ∷ c.OpenParen ∷ c.Input ∷ c.Output ∷ []
firsts k.MoreIdentifiers = c.Comma ∷ []
firsts k.PortDeclaration = c.OpenParen ∷ c.Input ∷ c.Output ∷ []
firsts k.PortDirection = c.Input ∷ c.Output ∷ []
firsts k.OutputPorts = c.Name ∷ c.SystemVerilog ∷ c.Reg ∷ c.Integer ∷ c.Wire ∷ c.Signed ∷ c.OpenBracket ∷ []
firsts k.NetPorts = c.Comma ∷ []
firsts k.NetPort = c.Name ∷ c.SystemVerilog ∷ c.OpenParen ∷ c.Input ∷ c.Output ∷ []
firsts k.VariablePorts = c.Comma ∷ []
firsts k.VariablePort = c.Name ∷ c.SystemVerilog ∷ c.OpenParen ∷ c.Input ∷ c.Output ∷ []
firsts k.ModuleItems = c.OpenParen ∷ c.Parameter ∷ c.Input ∷ c.Output ∷ c.Generate ∷ item_begins
firsts k.ModuleItem = c.Parameter ∷ c.Input ∷ c.Output ∷ c.Generate ∷ item_begins
firsts k.OutputNames = c.Name ∷ c.SystemVerilog ∷ c.Reg ∷ c.Integer ∷ c.Wire ∷ c.Signed ∷ c.OpenBracket ∷ []
firsts k.GenerateItems = c.OpenParen ∷ item_begins
firsts k.GenerateItem = item_begins
firsts k.GenerateBlock = c.OpenParen ∷ c.Begin ∷ item_begins
firsts k.GenerateBlockOrNull = c.Semicolon ∷ c.OpenParen ∷ c.Begin ∷ item_begins
firsts k.GenerateElse = c.Else ∷ []
firsts k.BlockName = c.Colon ∷ []
firsts k.NetType = c.Wire ∷ c.Signed ∷ c.OpenBracket ∷ []
firsts k.SignedRange = c.Signed ∷ c.OpenBracket ∷ []
firsts k.RangePart = c.OpenBracket ∷ []
firsts k.DeclaredName = c.Name ∷ c.SystemVerilog ∷ []
firsts k.Dimension = c.OpenBracket ∷ []
firsts k.MoreDeclaredNames = c.Comma ∷ []
firsts k.Variable = c.Name ∷ c.SystemVerilog ∷ []
firsts k.InitialValue = c.Equals ∷ []
firsts k.MoreVariables = c.Comma ∷ []
firsts k.ParameterType = c.Integer ∷ c.Signed ∷ c.OpenBracket ∷ []
firsts k.ParamAssignment = c.Name ∷ c.SystemVerilog ∷ []
firsts k.MoreParamAssignments = c.Comma ∷ []
firsts k.DelayPart = c.Hash ∷ []
firsts k.DelayValue = c.Name ∷ c.SystemVerilog ∷ c.Number ∷ c.OpenParen ∷ []
firsts k.NetAssignment = c.Name ∷ c.SystemVerilog ∷ c.OpenBrace ∷ []
firsts k.MoreNetAssignments = c.Comma ∷ []
firsts k.ParameterValues = c.Hash ∷ []
firsts k.ParameterList = c.Dot ∷ operand_begins
firsts k.ModuleInstance = c.Name ∷ c.SystemVerilog ∷ []
firsts k.MoreModuleInstances = c.Comma ∷ []
firsts k.Connections = c.Comma ∷ c.Dot ∷ operand_begins
firsts k.NamedConnection = c.Dot ∷ []
firsts k.MoreNamedConnections = c.Comma ∷ []
firsts k.MoreOrderedConnections = c.Comma ∷ []
firsts k.ExpressionPart = operand_begins
firsts k.MoreExpressions = c.Comma ∷ []
firsts k.Statement = c.OpenParen ∷ statement_begins
firsts k.StatementItem = statement_begins
firsts k.AssignmentOperator = c.Equals ∷ c.LessEqual ∷ []
firsts k.Statements = c.OpenParen ∷ statement_begins
firsts k.ElsePart = c.Else ∷ []
firsts k.CaseKeyword = c.Case ∷ c.CaseZ ∷ c.CaseX ∷ []
firsts k.CaseItems = c.Default ∷ operand_begins
firsts k.MoreCaseItems = c.Default ∷ operand_begins
firsts k.LabelledItems = operand_begins
firsts k.CaseItem = operand_begins
firsts k.DefaultItem = c.Default ∷ []
firsts k.ColonPart = c.Colon ∷ []
firsts k.EventControl = c.Name ∷ c.SystemVerilog ∷ c.OpenParen ∷ c.Star ∷ []
firsts k.EventExpressions = c.Name ∷ c.SystemVerilog ∷ c.Star ∷ c.Posedge ∷ c.Negedge ∷ []
firsts k.EventExpression = c.Name ∷ c.SystemVerilog ∷ c.Posedge ∷ c.Negedge ∷ []
firsts k.MoreEventExpressions = c.Or ∷ c.Comma ∷ []
firsts k.TaskArguments = c.OpenParen ∷ []
firsts k.TaskArgumentList = c.String ∷ operand_begins
firsts k.MoreTaskArguments = c.Comma ∷ []
firsts k.TaskArgument = c.String ∷ operand_begins
firsts k.LeftSide = c.Name ∷ c.SystemVerilog ∷ c.OpenBrace ∷ []
firsts k.MoreLeftSides = c.Comma ∷ []
firsts k.SelectPart = c.OpenBracket ∷ []
firsts k.SelectEnd = c.Colon ∷ c.CloseBracket ∷ c.PlusColon ∷ []
firsts k.Expression = operand_begins
firsts k.PowerChain = c.Power ∷ []
firsts k.ProductChain = c.Star ∷ c.Slash ∷ c.Percent ∷ []
firsts k.SumChain = c.Plus ∷ c.Minus ∷ []
firsts k.ShiftChain = c.ShiftLeft ∷ c.ShiftRight ∷ c.ShiftLeftSigned ∷ c.ShiftRightSigned ∷ []
firsts k.RelationChain = c.LessEqual ∷ c.Less ∷ c.Greater ∷ c.GreaterEqual ∷ []
firsts k.EqualityChain = c.Equal ∷ c.Unequal ∷ c.CaseEqual ∷ c.CaseUnequal ∷ []
firsts k.AndChain = c.And ∷ []
firsts k.XorChain = c.Xor ∷ c.Xnor ∷ []
firsts k.OrChain = c.Bar ∷ []
firsts k.LogicalAndChain = c.LogicalAnd ∷ []
firsts k.LogicalOrChain = c.LogicalOr ∷ []
firsts k.ConditionPart = c.Question ∷ []
firsts k.Operand = operand_begins
firsts k.FunctionArguments = c.OpenParen ∷ []
firsts k.BraceEnd = c.Comma ∷ c.OpenBrace ∷ c.CloseBrace ∷ []

-- the classes of the tokens behind a kind
unfoldable pub follows : Kind → List Class
follows k.SourceText = c.Finish ∷ []
follows k.Identifier = c.System ∷ c.UnaryFunction ∷ c.OpenParen ∷ c.Hash ∷ c.Equals ∷ c.Begin ∷ c.End ∷ c.OpenBracket ∷ c.While ∷ c.Repeat ∷ c.Forever ∷ c.At ∷ c.CaseZ ∷ c.CaseX ∷ (operators_or_ends ++ item_begins)
follows k.Attributes = c.Primitive ∷ c.Or ∷ c.Parameter ∷ c.Input ∷ c.Output ∷ c.Reg ∷ c.Integer ∷ c.Generate ∷ c.Wire ∷ c.Genvar ∷ c.Localparam ∷ c.Assign ∷ c.Always ∷ c.Initial ∷ statement_begins
follows k.AttributeSpecs = c.Primitive ∷ c.Or ∷ c.OpenParen ∷ c.Parameter ∷ c.Input ∷ c.Output ∷ c.Reg ∷ c.Integer ∷ c.Generate ∷ c.Wire ∷ c.Genvar ∷ c.Localparam ∷ c.Assign ∷ c.Always ∷ c.Initial ∷ statement_begins
follows k.ParameterPorts = c.Semicolon ∷ c.OpenParen ∷ []
follows k.MoreParameterPorts = c.CloseParen ∷ []
follows k.ParameterPort = c.CloseParen ∷ c.Comma ∷ []
follows k.PortList = c.Semicolon ∷ []
follows k.Ports = c.CloseParen ∷ []
follows k.MoreIdentifiers = c.CloseParen ∷ []
follows k.PortDeclaration = c.CloseParen ∷ []
follows k.PortDirection = c.CloseParen ∷ []
follows k.OutputPorts = c.CloseParen ∷ []
follows k.NetPorts = c.CloseParen ∷ []
follows k.NetPort = c.CloseParen ∷ []
follows k.VariablePorts = c.CloseParen ∷ []
follows k.VariablePort = c.CloseParen ∷ []
follows k.ModuleItems = c.EndModule ∷ []
follows k.ModuleItem = c.EndModule ∷ c.OpenParen ∷ c.Parameter ∷ c.Input ∷ c.Output ∷ c.Generate ∷ item_begins
follows k.OutputNames = c.Semicolon ∷ []
follows k.GenerateItems = c.EndGenerate ∷ c.End ∷ []
follows k.GenerateItem = c.EndModule ∷ c.OpenParen ∷ c.Parameter ∷ c.Input ∷ c.Output ∷ c.Generate ∷ c.EndGenerate ∷ c.End ∷ c.Else ∷ item_begins
follows k.GenerateBlock = c.EndModule ∷ c.OpenParen ∷ c.Parameter ∷ c.Input ∷ c.Output ∷ c.Generate ∷ c.EndGenerate ∷ c.End ∷ c.Else ∷ item_begins
follows k.GenerateBlockOrNull = c.EndModule ∷ c.OpenParen ∷ c.Parameter ∷ c.Input ∷ c.Output ∷ c.Generate ∷ c.EndGenerate ∷ c.End ∷ c.Else ∷ item_begins
follows k.GenerateElse = c.EndModule ∷ c.OpenParen ∷ c.Parameter ∷ c.Input ∷ c.Output ∷ c.Generate ∷ c.EndGenerate ∷ c.End ∷ c.Else ∷ item_begins
follows k.BlockName = c.Primitive ∷ c.Or ∷ c.OpenParen ∷ c.Reg ∷ c.Integer ∷ c.Wire ∷ c.Genvar ∷ c.Localparam ∷ c.Assign ∷ c.Always ∷ c.Initial ∷ c.End ∷ statement_begins
follows k.NetType = c.Name ∷ c.SystemVerilog ∷ []
follows k.SignedRange = c.Name ∷ c.SystemVerilog ∷ []
follows k.RangePart = c.Name ∷ c.SystemVerilog ∷ []
follows k.DeclaredName = c.Semicolon ∷ c.CloseParen ∷ c.Comma ∷ c.Equals ∷ []
follows k.Dimension = c.Semicolon ∷ c.CloseParen ∷ c.Comma ∷ c.Equals ∷ []
follows k.MoreDeclaredNames = c.Semicolon ∷ []
follows k.Variable = c.Semicolon ∷ c.CloseParen ∷ c.Comma ∷ []
follows k.InitialValue = c.Semicolon ∷ c.CloseParen ∷ c.Comma ∷ []
follows k.MoreVariables = c.Semicolon ∷ []
follows k.ParameterType = c.Name ∷ c.SystemVerilog ∷ []
follows k.ParamAssignment = c.Semicolon ∷ c.CloseParen ∷ c.Comma ∷ []
follows k.MoreParamAssignments = c.Semicolon ∷ []
follows k.DelayPart = c.Name ∷ c.SystemVerilog ∷ c.OpenBrace ∷ []
follows k.DelayValue = c.OpenParen ∷ statement_begins
follows k.NetAssignment = c.Semicolon ∷ c.Comma ∷ []
follows k.MoreNetAssignments = c.Semicolon ∷ []
follows k.ParameterValues = c.Name ∷ c.SystemVerilog ∷ []
follows k.ParameterList = c.CloseParen ∷ []
follows k.ModuleInstance = c.Semicolon ∷ c.Comma ∷ []
follows k.MoreModuleInstances = c.Semicolon ∷ []
follows k.Connections = c.CloseParen ∷ []
follows k.NamedConnection = c.CloseParen ∷ c.Comma ∷ []
follows k.MoreNamedConnections = c.CloseParen ∷ []
follows k.MoreOrderedConnections = c.CloseParen ∷ []
follows k.ExpressionPart = c.CloseParen ∷ c.Comma ∷ []
follows k.MoreExpressions = c.CloseParen ∷ c.Colon ∷ c.CloseBrace ∷ []
follows k.Statement = c.Semicolon ∷ c.EndModule ∷ c.Primitive ∷ c.Or ∷ c.Hash ∷ c.Parameter ∷ c.Input ∷ c.Output ∷ c.Reg ∷ c.Integer ∷ c.Generate ∷ c.EndGenerate ∷ c.Wire ∷ c.Genvar ∷ c.Localparam ∷ c.Assign ∷ c.Always ∷ c.Initial ∷ c.For ∷ c.If ∷ c.Case ∷ c.Begin ∷ c.End ∷ c.Else ∷ c.EndCase ∷ c.While ∷ c.Repeat ∷ c.Forever ∷ c.At ∷ c.CaseZ ∷ c.CaseX ∷ c.Default ∷ operand_begins
follows k.StatementItem = c.Semicolon ∷ c.EndModule ∷ c.Primitive ∷ c.Or ∷ c.Hash ∷ c.Parameter ∷ c.Input ∷ c.Output ∷ c.Reg ∷ c.Integer ∷ c.Generate ∷ c.EndGenerate ∷ c.Wire ∷ c.Genvar ∷ c.Localparam ∷ c.Assign ∷ c.Always ∷ c.Initial ∷ c.For ∷ c.If ∷ c.Case ∷ c.Begin ∷ c.End ∷ c.Else ∷ c.EndCase ∷ c.While ∷ c.Repeat ∷ c.Forever ∷ c.At ∷ c.CaseZ ∷ c.CaseX ∷ c.Default ∷ operand_begins
follows k.AssignmentOperator = operand_begins
follows k.Statements = c.End ∷ []
follows k.ElsePart = c.Semicolon ∷ c.EndModule ∷ c.Primitive ∷ c.Or ∷ c.Hash ∷ c.Parameter ∷ c.Input ∷ c.Output ∷ c.Reg ∷ c.Integer ∷ c.Generate ∷ c.EndGenerate ∷ c.Wire ∷ c.Genvar ∷ c.Localparam ∷ c.Assign ∷ c.Always ∷ c.Initial ∷ c.For ∷ c.If ∷ c.Case ∷ c.Begin ∷ c.End ∷ c.Else ∷ c.EndCase ∷ c.While ∷ c.Repeat ∷ c.Forever ∷ c.At ∷ c.CaseZ ∷ c.CaseX ∷ c.Default ∷ operand_begins
follows k.CaseKeyword = c.OpenParen ∷ []
follows k.CaseItems = c.EndCase ∷ []
follows k.MoreCaseItems = c.EndCase ∷ []
follows k.LabelledItems = c.EndCase ∷ []
follows k.CaseItem = c.EndCase ∷ c.Default ∷ operand_begins
follows k.DefaultItem = c.EndCase ∷ operand_begins
follows k.ColonPart = c.OpenParen ∷ statement_begins
follows k.EventControl = c.OpenParen ∷ statement_begins
follows k.EventExpressions = c.CloseParen ∷ []
follows k.EventExpression = c.Or ∷ c.CloseParen ∷ c.Comma ∷ []
follows k.MoreEventExpressions = c.CloseParen ∷ []
follows k.TaskArguments = c.Semicolon ∷ []
follows k.TaskArgumentList = c.CloseParen ∷ []
follows k.MoreTaskArguments = c.CloseParen ∷ []
follows k.TaskArgument = c.CloseParen ∷ c.Comma ∷ []
follows k.LeftSide = c.Comma ∷ c.Equals ∷ c.LessEqual ∷ c.CloseBrace ∷ []
follows k.MoreLeftSides = c.CloseBrace ∷ []
follows k.SelectPart = c.Equals ∷ operators_or_ends
follows k.SelectEnd = c.Equals ∷ operators_or_ends
follows k.Expression = expression_ends
follows k.PowerChain = c.Star ∷ c.Slash ∷ c.Percent ∷ c.Plus ∷ c.Minus ∷ c.ShiftLeft ∷ c.ShiftRight ∷ c.ShiftLeftSigned ∷ c.ShiftRightSigned ∷ comparisons_or_ends
follows k.ProductChain = c.Plus ∷ c.Minus ∷ c.ShiftLeft ∷ c.ShiftRight ∷ c.ShiftLeftSigned ∷ c.ShiftRightSigned ∷ comparisons_or_ends
follows k.SumChain = c.ShiftLeft ∷ c.ShiftRight ∷ c.ShiftLeftSigned ∷ c.ShiftRightSigned ∷ comparisons_or_ends
follows k.ShiftChain = comparisons_or_ends
follows k.RelationChain = c.Equal ∷ c.Unequal ∷ c.CaseEqual ∷ c.CaseUnequal ∷ bitwise_or_ends
follows k.EqualityChain = bitwise_or_ends
follows k.AndChain = c.Xor ∷ c.Xnor ∷ c.Bar ∷ logical_or_ends
follows k.XorChain = c.Bar ∷ logical_or_ends
follows k.OrChain = logical_or_ends
follows k.LogicalAndChain = c.LogicalOr ∷ c.Question ∷ expression_ends
follows k.LogicalOrChain = c.Question ∷ expression_ends
follows k.ConditionPart = expression_ends
follows k.Operand = operators_or_ends
follows k.FunctionArguments = operators_or_ends
follows k.BraceEnd = operators_or_ends

-- whether a kind can be empty
unfoldable pub is_null : Kind → Bool
is_null k.SourceText = true
is_null k.Attributes = true
is_null k.ParameterPorts = true
is_null k.MoreParameterPorts = true
is_null k.PortList = true
is_null k.Ports = true
is_null k.MoreIdentifiers = true
is_null k.NetPorts = true
is_null k.VariablePorts = true
is_null k.ModuleItems = true
is_null k.GenerateItems = true
is_null k.GenerateElse = true
is_null k.BlockName = true
is_null k.NetType = true
is_null k.SignedRange = true
is_null k.RangePart = true
is_null k.Dimension = true
is_null k.MoreDeclaredNames = true
is_null k.InitialValue = true
is_null k.MoreVariables = true
is_null k.ParameterType = true
is_null k.MoreParamAssignments = true
is_null k.DelayPart = true
is_null k.MoreNetAssignments = true
is_null k.ParameterValues = true
is_null k.MoreModuleInstances = true
is_null k.Connections = true
is_null k.MoreNamedConnections = true
is_null k.MoreOrderedConnections = true
is_null k.ExpressionPart = true
is_null k.MoreExpressions = true
is_null k.Statements = true
is_null k.ElsePart = true
is_null k.MoreCaseItems = true
is_null k.LabelledItems = true
is_null k.ColonPart = true
is_null k.MoreEventExpressions = true
is_null k.TaskArguments = true
is_null k.TaskArgumentList = true
is_null k.MoreTaskArguments = true
is_null k.MoreLeftSides = true
is_null k.SelectPart = true
is_null k.PowerChain = true
is_null k.ProductChain = true
is_null k.SumChain = true
is_null k.ShiftChain = true
is_null k.RelationChain = true
is_null k.EqualityChain = true
is_null k.AndChain = true
is_null k.XorChain = true
is_null k.OrChain = true
is_null k.LogicalAndChain = true
is_null k.LogicalOrChain = true
is_null k.ConditionPart = true
is_null k.FunctionArguments = true
is_null _ = false

-- how many productions can begin at a kind before a token is taken
unfoldable pub rank_of : Kind → ℕ
rank_of k.ParameterPort = 4
rank_of k.Ports = 4
rank_of k.PortDeclaration = 3
rank_of k.OutputPorts = 6
rank_of k.NetPort = 4
rank_of k.VariablePort = 4
rank_of k.ModuleItems = 4
rank_of k.ModuleItem = 2
rank_of k.OutputNames = 6
rank_of k.GenerateItems = 3
rank_of k.GenerateBlock = 3
rank_of k.GenerateBlockOrNull = 4
rank_of k.NetType = 3
rank_of k.SignedRange = 2
rank_of k.DeclaredName = 2
rank_of k.Variable = 3
rank_of k.ParameterType = 3
rank_of k.ParamAssignment = 3
rank_of k.DelayValue = 2
rank_of k.NetAssignment = 3
rank_of k.ParameterList = 4
rank_of k.ModuleInstance = 2
rank_of k.Connections = 6
rank_of k.ExpressionPart = 4
rank_of k.Statement = 5
rank_of k.StatementItem = 3
rank_of k.Statements = 6
rank_of k.CaseItems = 5
rank_of k.MoreCaseItems = 5
rank_of k.LabelledItems = 5
rank_of k.CaseItem = 4
rank_of k.EventControl = 2
rank_of k.EventExpressions = 3
rank_of k.EventExpression = 2
rank_of k.TaskArgumentList = 5
rank_of k.TaskArgument = 4
rank_of k.LeftSide = 2
rank_of k.Expression = 3
rank_of k.Operand = 2
rank_of k.BraceEnd = 2
rank_of _ = 1

-- how deep the cheapest tree of a kind is
unfoldable pub height_of : Kind → ℕ
height_of k.ParameterPort = 4
height_of k.PortDeclaration = 5
height_of k.PortDirection = 4
height_of k.OutputPorts = 4
height_of k.NetPort = 3
height_of k.VariablePort = 4
height_of k.ModuleItem = 2
height_of k.OutputNames = 4
height_of k.GenerateItem = 3
height_of k.GenerateBlock = 2
height_of k.NetType = 3
height_of k.SignedRange = 2
height_of k.DeclaredName = 2
height_of k.Variable = 3
height_of k.ParamAssignment = 3
height_of k.NetAssignment = 3
height_of k.ParameterList = 3
height_of k.ModuleInstance = 3
height_of k.Connections = 2
height_of k.NamedConnection = 2
height_of k.Statement = 2
height_of k.CaseItems = 4
height_of k.CaseItem = 3
height_of k.DefaultItem = 3
height_of k.EventExpression = 2
height_of k.LeftSide = 2
height_of k.Expression = 2
height_of k.BraceEnd = 2
height_of _ = 1

-- the production of the cheapest tree
unfoldable pub cheapest_of : Kind → Rule
cheapest_of k.SourceText = r.NoDescription
cheapest_of k.Identifier = r.PlainIdentifier
cheapest_of k.Attributes = r.NoAttribute
cheapest_of k.AttributeSpecs = r.AttributeEnd
cheapest_of k.ParameterPorts = r.NoParameterPort
cheapest_of k.MoreParameterPorts = r.NoMoreParameterPort
cheapest_of k.ParameterPort = r.ParameterPortDeclaration
cheapest_of k.PortList = r.NoPortList
cheapest_of k.Ports = r.NoPort
cheapest_of k.MoreIdentifiers = r.NoMoreIdentifier
cheapest_of k.PortDeclaration = r.AnsiPortDeclaration
cheapest_of k.PortDirection = r.InputPorts
cheapest_of k.OutputPorts = r.OutputRegPorts
cheapest_of k.NetPorts = r.NoNetPort
cheapest_of k.NetPort = r.NetPortName
cheapest_of k.VariablePorts = r.NoVariablePort
cheapest_of k.VariablePort = r.VariablePortName
cheapest_of k.ModuleItems = r.NoModuleItem
cheapest_of k.ModuleItem = r.GenerateRegion
cheapest_of k.OutputNames = r.OutputReg
cheapest_of k.GenerateItems = r.NoGenerateItem
cheapest_of k.GenerateItem = r.GenvarDeclaration
cheapest_of k.GenerateBlock = r.GenerateBeginEnd
cheapest_of k.GenerateBlockOrNull = r.NullGenerate
cheapest_of k.GenerateElse = r.NoGenerateElse
cheapest_of k.BlockName = r.NoBlockName
cheapest_of k.NetType = r.ImplicitNet
cheapest_of k.SignedRange = r.UnsignedRange
cheapest_of k.RangePart = r.NoRange
cheapest_of k.DeclaredName = r.NameDeclared
cheapest_of k.Dimension = r.NoDimension
cheapest_of k.MoreDeclaredNames = r.NoMoreDeclaredName
cheapest_of k.Variable = r.VariableDeclared
cheapest_of k.InitialValue = r.NoInitialValue
cheapest_of k.MoreVariables = r.NoMoreVariable
cheapest_of k.ParameterType = r.IntegerParameter
cheapest_of k.ParamAssignment = r.ParamAssigned
cheapest_of k.MoreParamAssignments = r.NoMoreParamAssignment
cheapest_of k.DelayPart = r.NoDelay
cheapest_of k.DelayValue = r.DelayNumber
cheapest_of k.NetAssignment = r.NetAssigned
cheapest_of k.MoreNetAssignments = r.NoMoreNetAssignment
cheapest_of k.ParameterValues = r.NoParameterValue
cheapest_of k.ParameterList = r.NamedParameters
cheapest_of k.ModuleInstance = r.InstanceOfModule
cheapest_of k.MoreModuleInstances = r.NoMoreModuleInstance
cheapest_of k.Connections = r.OrderedConnections
cheapest_of k.NamedConnection = r.ConnectionByName
cheapest_of k.MoreNamedConnections = r.NoMoreNamedConnection
cheapest_of k.MoreOrderedConnections = r.NoMoreOrderedConnection
cheapest_of k.ExpressionPart = r.NoExpression
cheapest_of k.MoreExpressions = r.NoMoreExpression
cheapest_of k.Statement = r.StatementWithAttributes
cheapest_of k.StatementItem = r.NullStatement
cheapest_of k.AssignmentOperator = r.Blocking
cheapest_of k.Statements = r.NoStatement
cheapest_of k.ElsePart = r.NoElse
cheapest_of k.CaseKeyword = r.CaseExact
cheapest_of k.CaseItems = r.FirstDefault
cheapest_of k.MoreCaseItems = r.NoMoreCaseItem
cheapest_of k.LabelledItems = r.NoLabelledItem
cheapest_of k.CaseItem = r.LabelledCaseItem
cheapest_of k.DefaultItem = r.DefaultCaseItem
cheapest_of k.ColonPart = r.NoColon
cheapest_of k.EventControl = r.EventAny
cheapest_of k.EventExpressions = r.EventAnyInParens
cheapest_of k.EventExpression = r.PosedgeEvent
cheapest_of k.MoreEventExpressions = r.NoMoreEvent
cheapest_of k.TaskArguments = r.NoTaskArguments
cheapest_of k.TaskArgumentList = r.NoTaskArgument
cheapest_of k.MoreTaskArguments = r.NoMoreTaskArgument
cheapest_of k.TaskArgument = r.StringArgument
cheapest_of k.LeftSide = r.LeftName
cheapest_of k.MoreLeftSides = r.NoMoreLeftSide
cheapest_of k.SelectPart = r.NoSelect
cheapest_of k.SelectEnd = r.BitSelect
cheapest_of k.Expression = r.OperandWithChains
cheapest_of k.PowerChain = r.NoPower
cheapest_of k.ProductChain = r.NoProduct
cheapest_of k.SumChain = r.NoSum
cheapest_of k.ShiftChain = r.NoShift
cheapest_of k.RelationChain = r.NoRelation
cheapest_of k.EqualityChain = r.NoEquality
cheapest_of k.AndChain = r.NoAnd
cheapest_of k.XorChain = r.NoXor
cheapest_of k.OrChain = r.NoOr
cheapest_of k.LogicalAndChain = r.NoLogicalAnd
cheapest_of k.LogicalOrChain = r.NoLogicalOr
cheapest_of k.ConditionPart = r.NoCondition
cheapest_of k.Operand = r.NumberOperand
cheapest_of k.FunctionArguments = r.NoFunctionArguments
cheapest_of k.BraceEnd = r.Concatenation

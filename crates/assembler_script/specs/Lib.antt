pub mod AssemblyText

mod Nets
